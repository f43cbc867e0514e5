-- The whole list of a record behind a list: the calls of the code, and what is left.
use Rattle.std.specs.Prelude.{ℕ, ◌+◌, ◌*◌, ◌-◌, ◌≤◌, ◌<◌, ◌^◌, ◌≡◌, Bool, true, false, List, [], length, take, drop}
use Rattle.std.proofs.Math.Path.{refl}
use Rattle.std.proofs.Common.{sym, ◌∙◌, ap, arith}
use Rattle.words.specs.Run.{read, put, lay}
use Rattle.words.specs.RunLaws.{length-read, part_read, lay-put}
use Rattle.tallies.specs.Tally.{with_tally}
use Rattle.listings.specs.Listing.{listed_one, over_list, Listed}
use Rattle.state.specs.declared.BatchCoalescer.{BatchCoalescer}
use Rattle.state.specs.World.{world}
use Rattle.state.specs.Layout.{is_views, list_place, list_length, tally}
use Rattle.state.proofs.LayoutLaws.{bitmap_in, list_follows}
use Rattle.layout.specs.PlaceLaws.{list-below}
use Rattle.rules.specs.declared.ColumnRecord.{ColumnRecord}
use Rattle.rules.specs.Batch.{Batch, batch, record_of, list_of}
use Rattle.rules.specs.Steps.{counting}
use Rattle.rules.specs.Views.{list_attached}
use Rattle.columns.specs.SourceLaws.{list_same}
use Rattle.lists.specs.List.{Listable, Attaches}

module _ {s : BatchCoalescer} {slots books records body : List ℕ} {rows c : ℕ} {r : ColumnRecord} (x : Listable s slots books (batch rows records body) c) (e : r ≡ record_of (batch rows records body) c) where
  abbrev b : Batch
  b = batch rows records body

  list_is : list_of b c ≡ read r.list (4 * r.count) body
  unfolding list_of
  list_is = rw e

  pub list_in_body : r.list + 4 * r.count ≤ length body
  list_in_body = rw e x.inside

  pub append-column : c < 16
  append-column = omega (arith, x.few.columns, x.column)

  pub append_slot : s.place ≤ 1024
  append_slot = omega (arith, x.few.queue, x.place)

  module _ {n : ℕ} (l : n ≡ list_length (world s [] [] books) s.place c) where
    pub append_most : n + r.count ≤ s.lists
    append_most = rw (e, l) x.room

    pub append-fits : n + r.count < 2 ^ 32
    append-fits = omega (arith, append_most, x.few.lists)

    module _ {place : ℕ} (p : place ≡ list_place s s.place c) where
      pub append_room : place + 4 * n + 4 * r.count ≤ length slots
      append_room = go (is_views s c) refl
        where
          go : (v : Bool) → is_views s c ≡ v → place + 4 * n + 4 * r.count ≤ length slots
          go true y = omega (arith, p, list-below s x.place x.column x.slots_are {k = n + r.count} y append_most)
          go false y = rw p (omega (arith, count_none, n_none, list_follows s s.place c, bitmap_in s s.place c x.place x.column, x.slots_are))
            where
              count_none : r.count ≡ 0
              count_none = ap (λ (z : ColumnRecord). z.count) e ∙ x.plain y

              n_none : n ≡ 0
              n_none = l ∙ x.empty y

      module _ {slots' books' books'' : List ℕ} (q : slots' ≡ put (place + 4 * n) (read r.list (4 * r.count) body) slots)
          (o : books' ≡ over_list listed_one books (take (r.list + 4 * r.count - r.list) (drop r.list body)) r.count)
          (t : books'' ≡ with_tally books' (tally s s.place (c + 1)) (n + r.count)) where
        laid : slots' ≡ lay (list_place s s.place c + 4 * n) (list_of b c) slots
        laid =
            let m : length (read r.list (4 * r.count) body) ≡ 4 * r.count = length-read r.list (4 * r.count) body list_in_body in
            let z : place + 4 * n + length (read r.list (4 * r.count) body) ≤ length slots = omega (arith, m, append_room) in
            q ∙ sym (lay-put (place + 4 * n) (read r.list (4 * r.count) body) slots z) ∙ rw (p, list_is)

        over : books' ≡ over_list listed_one books (list_of b c) (record_of b c).count
        over = o ∙ rw (part_read r.list (4 * r.count) body, ← list_is, e)

        attached : (pool : List ℕ) → list_attached (world s slots pool books) b c ≡ world s (lay (list_place s s.place c + 4 * list_length (world s slots pool books) s.place c) (list_of b c) slots) pool (with_tally (over_list listed_one books (list_of b c) (record_of b c).count) (tally s s.place (c + 1)) (list_length (world s slots pool books) s.place c + (record_of b c).count))
        unfolding list_attached counting
        attached pool = refl

        pub append-done : Attaches s slots books b c slots' books''
        append-done =
            record {
              is = λ pool. attached pool ∙ rw (← list_same s slots pool books c s.place, ← l, laid, t, over, ← e);
            }

-- what list_all asks: the part of the body that is lent is the list
pub append-listed : {s : BatchCoalescer} {slots books records body : List ℕ} {rows c : ℕ} {r : ColumnRecord} → Listable s slots books (batch rows records body) c → r ≡ record_of (batch rows records body) c → Listed books s.numbers (take (r.list + 4 * r.count - r.list) (drop r.list body)) r.count
append-listed {s} {slots} {books} {records} {body} {rows} {c} {r} x e =
    rw (part_read r.list (4 * r.count) body, ← list_is x e, e) x.listed
