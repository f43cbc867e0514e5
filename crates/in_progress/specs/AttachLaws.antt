-- A part attached: the calls of the code, and its ways out.
use Prim.Native.Nat.{ℕ, ◌+◌, ◌*◌, ◌-◌, ◌≤◌, ◌<◌}
use Rattle.std.specs.Prelude.{◌≡◌, List, [], length}
use Rattle.std.proofs.Common.{sym, ◌∙◌, arith}
use Rattle.std.proofs.Math.Path.{ap}
use borrow.Author.Tests.{le-leb, lt-leb}
use Rattle.words.specs.Run.{read, put}
use Rattle.views.specs.declared.View.{View}
use Rattle.views.specs.View.{raised_by}
use Rattle.primitive.specs.declared.Rows.{Rows}
use Rattle.byte_view.specs.Copying.{Spanned, Raisable}
use Rattle.byte_view.specs.CallerLaws.{raisable_below}
use Rattle.byte_view.specs.RuleLaws.{views_are}
use Rattle.rules.specs.declared.ColumnRecord.{ColumnRecord}
use Rattle.rules.specs.Batch.{Batch, batch, record_of, value_place, row_view}
use Rattle.rules.specs.Copies.{views_at, views_put}
use Rattle.rules.specs.Steps.{ok, refuse}
use Rattle.rules.specs.Views.{span, closed, views_from, list_attached, views_raised, part_attached}
use Rattle.state.specs.declared.BatchCoalescer.{BatchCoalescer}
use Rattle.state.specs.World.{World, world}
use Rattle.state.specs.Layout.{width_of, cell_place, books_length, list_length}
use Rattle.state.proofs.LayoutLaws.{views_width}
use Rattle.layout.specs.Few.{Few}
use Rattle.rules.specs.Leaves.{steps-done, steps-refused}
use Rattle.columns.specs.Column.{closed_length}
use Rattle.columns.specs.SourceLaws.{list_same, closed-answer, list-within}
use Rattle.push_safety.specs.CallerLaws.{run_bounds, cells_room, values_room, long-index, list-listed}
use Rattle.push_safety.specs.Along.{Along}
use Rattle.open_blocks.specs.Open.{FillingViews, ClosesBlock}
use Rattle.lists.specs.List.{Listable, Attaches}
use Rattle.in_progress.specs.Part.{ViewPart, AnyPart, AttachesPart, RaisesPart}
use Rattle.open_blocks.specs.AskLaws.{zeros, length-zeros, run-booked}
use Rattle.in_progress.specs.AskLaws.{part_few, part_slot, part_books, part_column, part_place, part_at}
use Rattle.in_progress.specs.AlongLaws.{views_on, closed_along}

-- ---- attach_list

module _ (s : BatchCoalescer) (slots pool books : List ℕ) (b : Batch) (p : Rows) {f : ℕ → View} {to : ℕ} (e : views_from (world s slots pool books) b p.column p.from ≡ f) (q : cell_place s s.place p.column p.at ≡ to) where
  raise_views : (k : ℕ) {t : List ℕ} → t ≡ views_put (λ i. raised_by k (f i)) slots to p.count.0 → views_raised (world s slots pool books) b k (span p.column p.at p.from p.count.0) ≡ world s t pool books
  unfolding views_raised
  raise_views k u =
      ap (λ (g : ℕ → View). world s (views_put (λ i. raised_by k (g i)) slots (cell_place s s.place p.column p.at) p.count.0) pool books) e
      ∙ rw (q, u)

module _ {s : BatchCoalescer} {slots books records body : List ℕ} {rows : ℕ} {r : ColumnRecord} {p : Rows} (a : AnyPart s slots books (batch rows records body) r p) where
  abbrev d : Batch
  d = batch rows records body

  abbrev pool : List ℕ
  pool = zeros s.pool.0

  x : ViewPart (world s slots pool books) d r p
  x = a.any pool (length-zeros s.pool.0)

  pub any_column : p.column < 16
  any_column = part_column x.part

  pub any_few : Few s
  any_few = part_few x.part

  pub any_slot : s.place ≤ s.queue
  any_slot = part_slot x.part

  pub any_below : p.column < s.columns
  any_below = x.part.column

  pub any_books : length books ≡ books_length s
  any_books = part_books x.part

  pub any_place : p.place ≤ 35000000000
  any_place = part_place x.part

  pub any_at : p.at ≤ 65536
  any_at = part_at x.part

  pub any_record : r ≡ record_of d p.column
  any_record = x.part.recorded

  pub any_within : list_length (world s [] [] books) s.place p.column ≤ s.lists
  any_within = list-within s slots pool books p.column x.part.run x.part.column

  pub any_ready : FillingViews s slots books p.column
  any_ready =
      record { booked = run-booked x.part.run; slots_are = x.part.run.fit.slots_are; column = x.part.column; views = x.views }

  wide : width_of s p.column ≡ 16
  wide = views_width s p.column x.views

  value_at : (w : World) → width_of w.state p.column ≡ 16 → value_place w d p.column p.from ≡ r.values + p.from * 16
  unfolding value_place
  value_at w y = rw (y, x.part.recorded)

  cell_at : cell_place s s.place p.column p.at ≡ p.place + p.at * 16
  unfolding cell_place
  cell_at = rw (wide, x.part.placed)

  views_at_lem : (w : World) → width_of w.state p.column ≡ 16 → views_from w d p.column p.from ≡ views_at body (r.values + p.from * 16)
  views_at_lem w y = views_are w d p.column y p.from ∙ ap (views_at body) (value_at w y)

  pub raise_spanned : (slots' : List ℕ) → length slots' ≡ length slots → Spanned body (r.values + p.from * 16) (length slots') (p.place + p.at * 16) p.count.0
  raise_spanned slots' z =
      record {
        few = omega (arith, x.part.room, (run_bounds x.part.run).rows);
        read =
            let l = values_room x.part.reads p.column p.from p.count.0 x.part.column x.part.there in
            rw (wide, value_at (world s slots pool books) wide) at l;
        put =
            let l = cells_room x.part.run p.column x.part.column p.at p.count.0 x.part.room in
            rw (z) (rw (wide, cell_at) at l);
      }

  module _ {k : ℕ} (m : k + r.count ≤ s.lists) where
    pub raise_raisable : Raisable body (r.values + p.from * 16) p.count.0 k
    raise_raisable =
        raisable_below k r.count
        (λ i h l.
        let e : views_at body (r.values + p.from * 16) i ≡ row_view (world s slots pool books) d p.column (p.from + i) = sym (ap (λ (g : ℕ → View). g i) (views_at_lem (world s slots pool books) wide)) in
        let t : 12 < (row_view (world s slots pool books) d p.column (p.from + i)).length = rw e at l in
        rw (e, x.part.recorded) (long-index x.part.reads p.column (p.from + i) x.part.column x.views (omega (arith, x.part.there)) t))
        (omega (arith, (part_few x.part).lists))

    module _ (q : k ≡ list_length (world s [] [] books) s.place p.column) where
      pub raise_listable : Listable s slots books d p.column
      raise_listable =
          record {
            few = part_few x.part;
            place = part_slot x.part;
            column = x.part.column;
            slots_are = x.part.run.fit.slots_are;
            books_are = part_books x.part;
            inside = (x.part.reads.columns p.column x.part.column).listed;
            listed = list-listed x.part.reads x.part.run p.column x.part.column;
            room = rw (← q, ← x.part.recorded) m;
            plain = (x.part.reads.columns p.column x.part.column).plain;
            empty = λ y. list_same s slots pool books p.column s.place ∙ x.part.run.none s.place p.column (part_slot x.part) x.part.column y;
          }

      pub raise_done : {slots' slots'' books' : List ℕ} → Attaches s slots books d p.column slots' books' → slots'' ≡ views_put (λ i. raised_by k (views_at body (r.values + p.from * 16) i)) slots' (p.place + p.at * 16) p.count.0 → RaisesPart s slots books d k p slots'' books'
      raise_done {slots'} {slots''} {books'} t u = record { is = λ y. go y }
        where
          views : (y : List ℕ) → views_raised (world s slots' y books') d k (span p.column p.at p.from p.count.0) ≡ world s slots'' y books'
          views y = raise_views s slots' y books' d p (views_at_lem (world s slots' y books') wide) cell_at k u

          go : (y : List ℕ) → views_raised (list_attached (world s slots y books) d p.column) d k (span p.column p.at p.from p.count.0) ≡ world s slots'' y books'
          go y = ap (λ (w : World). views_raised w d k (span p.column p.at p.from p.count.0)) (t.is y) ∙ views y

-- ---- attach

module _ {s : BatchCoalescer} {slots books records body : List ℕ} {rows : ℕ} {r : ColumnRecord} {p : Rows} (a : AnyPart s slots books (batch rows records body) r p) {n : ℕ} (e : n ≡ closed_length (world s [] [] books) p.column) where
  abbrev g : Batch
  g = batch rows records body

  closed-list : (pool : List ℕ) → length pool ≡ s.pool.0 → list_length (closed (world s slots pool books) p.column) s.place p.column ≡ n
  closed-list pool l =
      let y : ViewPart (world s slots pool books) g r p = a.any pool l in
      sym (closed-answer s slots pool books p.column y.part.run y.part.column y.views e)

  counted : (record_of g p.column).count ≡ r.count
  counted = sym (ap (λ (z : ColumnRecord). z.count) (any_record a))

  -- 10
  refuses : s.lists < n + r.count → (pool : List ℕ) → length pool ≡ s.pool.0 → part_attached (world s slots pool books) g (span p.column p.at p.from p.count.0) ≡ refuse 10
  unfolding part_attached
  refuses h pool l = rw (closed-list pool l, counted, lt-leb (n + r.count) s.lists h)

  pub attach_full : s.lists < n + r.count → AttachesPart s slots books g p (record { state = s; number = 10 }) slots books
  attach_full h = record { steps = λ pool l. steps-refused (λ z. omega arith) (refuses h pool l) }

  module _ (h : n + r.count ≤ s.lists) {t : BatchCoalescer} {slots' books' : List ℕ} (c : ClosesBlock s slots books p.column t slots' books') where
    attaches : (pool : List ℕ) → length pool ≡ s.pool.0 → part_attached (world s slots pool books) g (span p.column p.at p.from p.count.0) ≡ ok (views_raised (list_attached (world t slots' pool books') g p.column) g n (span p.column p.at p.from p.count.0))
    unfolding part_attached
    attaches pool l = rw (closed-list pool l, counted, le-leb (n + r.count) s.lists h, c.is pool)

    along : (pool : List ℕ) → length pool ≡ s.pool.0 → Along (world s slots pool books) (world t slots' pool books')
    along pool l = rw (c.is pool) at (closed_along (a.any pool l))

    abbrev some : List ℕ
    some = zeros s.pool.0

    same : Along (world s slots some books) (world t slots' some books')
    same = along some (length-zeros s.pool.0)

    pool-same : t.pool.0 ≡ s.pool.0
    pool-same = ap (λ y. y.0) same.beside.set_up.pool

    pub attach_part : AnyPart t slots' books' g r p
    attach_part = record { any = λ pool l. views_on (along pool (l ∙ pool-same)) (a.any pool (l ∙ pool-same)) }

    pub attach_room : n + r.count ≤ t.lists
    attach_room = omega (arith, same.beside.set_up.lists)

    pub attach_list_is : n ≡ list_length (world t [] [] books') t.place p.column
    attach_list_is =
        sym (closed-list some (length-zeros s.pool.0))
        ∙ ap (λ (w : World). list_length w s.place p.column) (c.is some)
        ∙ sym (list_same t slots' some books' p.column s.place)
        ∙ ap (λ (k : ℕ). list_length (world t [] [] books') k p.column) (sym same.beside.place)

    pub attach_done : {slots'' books'' : List ℕ} → RaisesPart t slots' books' g n p slots'' books'' → AttachesPart s slots books g p (record { state = t; number = 0 }) slots'' books''
    attach_done z = record { steps = λ pool l. steps-done (attaches pool l ∙ ap ok (z.is pool)) }
