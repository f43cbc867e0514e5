-- What holds of a world besides the room for the open block, and how it is shown of the next world of a push.
use Rattle.std.specs.Prelude.{ℕ, ◌+◌, ◌*◌, ◌≤◌, ◌<◌, ◌≡◌, refl, Bool, true, false, length}
use Rattle.std.proofs.Common.{sym, ◌∙◌, ap, arith}
use Rattle.search.specs.Cases.{same_test}
use Rattle.search.specs.Every.{every, every-says, every_is}
use Rattle.words.specs.WordLaws.{Bytes}
use Rattle.words.specs.Frame.{Framed}
use Rattle.words.specs.FrameLaws.{framed_refl}
use Rattle.kinds.specs.Kind.{width_at}
use Rattle.books.specs.Entry.{used_of, entry_of}
use Rattle.tallies.specs.Tally.{tally_of}
use Rattle.tallies.specs.TallyLaws.{framed_tally}
use Rattle.counts.specs.declared.BufferNumber.{BufferNumber}
use Rattle.state.specs.declared.BatchCoalescer.{BatchCoalescer}
use Rattle.state.specs.World.{World, column_of}
use Rattle.state.specs.Layout.{is_views, books_length, tally, list_length}
use Rattle.rules.specs.Ranges.{is_kind, in_bounds}
use Rattle.rules.specs.Batch.{Batch, listed_number, row_view}
use Rattle.rules.specs.Views.{source_place}
use Rattle.rules.specs.Stays.{SameSetUp, Kept, Beside, beside_kept, beside_state}
use Rattle.rules.specs.SameLaws.{same_width, same_views, same_slots_length, same_books_length, same-tally, same_row_view}
use Rattle.push_safety.specs.Run.{Fit, Run, ColumnReads, RowReads, Readable, Goes}
use Rattle.push_safety.specs.TestedLaws.{bounds_say}
use Rattle.push_safety.specs.BooksGo.{BooksRun, BooksGo, go_refl}
use Rattle.std.specs.Prelude.{Some}

-- Run without its room
pub record Firm (w : World) : Type 0 where
  pub fit : Fit w
  pub books : BooksRun w.books w.state.numbers w.state.pool.0
  pub lists : (slot c : ℕ) → slot ≤ w.state.queue → c < w.state.columns → list_length w slot c ≤ w.state.lists
  pub none : (slot c : ℕ) → slot ≤ w.state.queue → c < w.state.columns → is_views w.state c ≡ false → list_length w slot c ≡ 0
  pub kept : (c : ℕ) → c < w.state.columns → is_views w.state c ≡ true → 1 ≤ (column_of w.state c).source.current.0
  pub block : (c : ℕ) (k : BufferNumber) → c < w.state.columns → is_views w.state c ≡ true → (column_of w.state c).block ≡ Some k → k.0 < used_of w.books

-- the room for the open block of each column of views
pub record Spare (w : World) : Type 0 where
  pub room : (c : ℕ) (k : BufferNumber) → c < w.state.columns → is_views w.state c ≡ true → (column_of w.state c).block ≡ Some k → list_length w w.state.place c < w.state.lists

-- the entries lie in the books
books_room : (s : BatchCoalescer) → 4 + 20 * s.numbers ≤ books_length s
unfolding books_length
books_room s = omega arith

pub run_firm : {w : World} → Run w → Firm w
run_firm {w} r =
    record {
      fit = r.fit;
      books =
          record {
            roomy =
                record {
                  bytes = r.fit.bytes;
                  room = omega (arith, r.fit.books_are, books_room w.state);
                  few = (bounds_say w.state r.fit.bounds).numbers;
                };
            used = r.used;
            inside = r.inside;
            filled = r.filled;
          };
      lists = r.lists;
      none = r.none;
      kept = r.kept;
      block = r.block;
    }

pub run_spare : {w : World} → Run w → Spare w
run_spare r = record { room = r.room }

pub firm_run : {w : World} → Firm w → Spare w → Run w
firm_run f s =
    record {
      fit = f.fit;
      used = f.books.used;
      inside = f.books.inside;
      filled = f.books.filled;
      lists = f.lists;
      none = f.none;
      kept = f.kept;
      block = f.block;
      room = s.room;
    }

-- ---- the set-up

every-same : (p q : ℕ → Bool) (n : ℕ) → ((i : ℕ) → p i ≡ q i) → every p n ≡ every q n
every-same p q n h =
    same_test (every p n) (every q n)
    (λ e. every_is q n (λ i l. sym (h i) ∙ every-says p n e i l))
    (λ e. every_is p n (λ i l. h i ∙ every-says q n e i l))

pub same_bounds : {s t : BatchCoalescer} → SameSetUp s t → in_bounds t ≡ in_bounds s
unfolding in_bounds
same_bounds {s} {t} e =
    let k : every (λ c. is_kind (width_at (column_of t c).kind)) t.columns ≡ every (λ c. is_kind (width_at (column_of s c).kind)) s.columns = ap (every (λ c. is_kind (width_at (column_of t c).kind))) e.columns ∙ every-same _ _ s.columns (λ c. ap (λ (x : ℕ). is_kind (width_at x)) (e.kind c)) in
    rw (k, e.target, e.rows, e.queue, e.columns, e.lists, e.numbers, e.pool)

pub fit_goes : {w v : World} → Fit w → Kept w v → Bytes v.books → Fit v
fit_goes f k b =
    record {
      bounds = same_bounds k.set_up ∙ f.bounds;
      slots_are = k.slots ∙ f.slots_are ∙ sym (same_slots_length k.set_up);
      pool_is = k.pool ∙ f.pool_is ∙ ap (λ p. p.0) (sym k.set_up.pool);
      books_are = k.books ∙ f.books_are ∙ sym (same_books_length k.set_up);
      place = k.place f.place;
      queued = k.queued f.queued;
      bytes = b;
    }

-- ---- lists: what stays within the entries leaves their lengths

pub same_list_length : (w v : World) → SameSetUp w.state v.state → Framed 0 (4 + 20 * w.state.numbers) w.books v.books → (slot c : ℕ) → list_length v slot c ≡ list_length w slot c
unfolding list_length
same_list_length w v e f slot c =
    ap (tally_of v.books) (same-tally e slot (c + 1)) ∙ framed_tally (tally w.state slot (c + 1)) f

-- ---- what could be read still can

pub reads_go : {w v : World} → SameSetUp w.state v.state → BooksGo w.books v.books w.state.numbers w.state.pool.0 → (b : Batch) → Readable w b → Readable v b
unfolding source_place
reads_go {w} {v} e g b r =
    record {
      records_are = r.records_are ∙ ap (λ (c : ℕ). 32 * c) (sym e.columns);
      rows_fit = rw e.rows r.rows_fit;
      columns = λ c h.
          let x : ColumnReads w b c = r.columns c (rw e.columns at h) in
          record {
            values = rw (same_width e c) x.values;
            bits = x.bits;
            listed = x.listed;
            held = λ i l. g.held (listed_number b c i) (x.held i l);
            plain = λ y. x.plain (rw (same_views e c) at y);
          };
      long = λ c i h y l t.
          let k : c < w.state.columns = rw e.columns at h in
          let q : row_view v b c i ≡ row_view w b c i = same_row_view w v b e c i in
          let x : RowReads w b c i = r.long c i k (rw (same_views e c) at y) l (rw q at t) in
          let o : (entry_of v.books (listed_number b c (row_view w b c i).index)).start ≡ (entry_of w.books (listed_number b c (row_view w b c i).index)).start = g.start _ ((r.columns c k).held (row_view w b c i).index x.index) in
          record { index = rw q x.index; source = rw (q, e.pool, o) x.source };
    }

-- ---- the next world

-- what has to be shown of it, in the terms of the set-up of the world before
pub record Shown (w v : World) : Type 0 where
  pub lists : (slot c : ℕ) → slot ≤ w.state.queue → c < w.state.columns → list_length v slot c ≤ w.state.lists
  pub none : (slot c : ℕ) → slot ≤ w.state.queue → c < w.state.columns → is_views w.state c ≡ false → list_length v slot c ≡ 0
  pub kept : (c : ℕ) → c < w.state.columns → is_views w.state c ≡ true → 1 ≤ (column_of v.state c).source.current.0
  pub block : (c : ℕ) (k : BufferNumber) → c < w.state.columns → is_views w.state c ≡ true → (column_of v.state c).block ≡ Some k → k.0 < used_of v.books

-- Goes without its room
pub record FirmGoes (w v : World) : Type 0 where
  pub firm : Firm v
  pub reads : (b : Batch) → Readable w b → Readable v b

pub firm_goes : {w v : World} → Firm w → Kept w v → BooksGo w.books v.books w.state.numbers w.state.pool.0 → Shown w v → FirmGoes w v
firm_goes {w} {v} f k g s =
    record {
      firm =
          record {
            fit = fit_goes f.fit k g.run.roomy.bytes;
            books = rw (k.set_up.numbers, k.set_up.pool) g.run;
            lists = λ slot c l h. omega (arith, k.set_up.lists, s.lists slot c (rw k.set_up.queue at l) (rw k.set_up.columns at h));
            none = λ slot c l h y. s.none slot c (rw k.set_up.queue at l) (rw k.set_up.columns at h) (rw (same_views k.set_up c) at y);
            kept = λ c h y. s.kept c (rw k.set_up.columns at h) (rw (same_views k.set_up c) at y);
            block = λ c n h y o. s.block c n (rw k.set_up.columns at h) (rw (same_views k.set_up c) at y) o;
          };
      reads = reads_go k.set_up g;
    }

-- the room, in the same terms
pub spare_goes : (w v : World) → SameSetUp w.state v.state → ((c : ℕ) (k : BufferNumber) → c < w.state.columns → is_views w.state c ≡ true → (column_of v.state c).block ≡ Some k → list_length v v.state.place c < w.state.lists) → Spare v
spare_goes w v e h =
    record {
      room = λ c k l y o. omega (arith, e.lists, h c k (rw e.columns at l) (rw (same_views e c) at y) o);
    }

pub goes_both : {w v : World} → FirmGoes w v → Spare v → Goes w v
goes_both f s = record { run = firm_run f.firm s; reads = f.reads }

pub goes_refl : {w : World} → Run w → Goes w w
goes_refl r = record { run = r; reads = λ b x. x }

pub goes_trans : {w v u : World} → Goes w v → Goes v u → Goes w u
goes_trans a b = record { run = b.run; reads = λ x h. b.reads x (a.reads x h) }

pub firm_refl : {w : World} → Firm w → FirmGoes w w
firm_refl f = record { firm = f; reads = λ b x. x }

pub firm_trans : {w v u : World} → FirmGoes w v → FirmGoes v u → FirmGoes w u
firm_trans a b = record { firm = b.firm; reads = λ x h. b.reads x (a.reads x h) }

pub goes_firm : {w v : World} → Goes w v → FirmGoes w v
goes_firm g = record { firm = run_firm g.run; reads = g.reads }

-- ---- the same state, books whose changes stay within the entries: lists and columns are as they were

module _ (w v : World) (e : v.state ≡ w.state) (slots : length v.slots ≡ length w.slots) (pool : length v.pool ≡ length w.pool) (g : BooksGo w.books v.books w.state.numbers w.state.pool.0) (f : Framed 0 (4 + 20 * w.state.numbers) w.books v.books) where
  b : Beside w v
  b = beside_state w v e slots pool g.len

  list : (slot c : ℕ) → list_length v slot c ≡ list_length w slot c
  list = same_list_length w v b.set_up f

  pub within_firm : Firm w → FirmGoes w v
  within_firm r =
      firm_goes r (beside_kept b) g
      (record {
        lists = λ slot c l h. rw (list slot c) (r.lists slot c l h);
        none = λ slot c l h y. list slot c ∙ r.none slot c l h y;
        kept = λ c h y. rw e (r.kept c h y);
        block = λ c k h y o. omega (arith, r.block c k h y (rw e at o), g.used);
      })

  pub within_goes : Run w → Goes w v
  within_goes r =
      goes_both (within_firm (run_firm r))
      (spare_goes w v b.set_up (λ c k h y o.
      let q : list_length v v.state.place c ≡ list_length w w.state.place c = list v.state.place c ∙ ap (λ (slot : ℕ). list_length w slot c) b.place in
      omega (arith, q, r.room c k h y (rw e at o))))

-- only slots change
pub slots_goes : {w v : World} → v.state ≡ w.state → length v.slots ≡ length w.slots → v.pool ≡ w.pool → v.books ≡ w.books → Run w → Goes w v
slots_goes {w} {v} e s p q r = within_goes w v e s (ap length p) (rw q (go_refl (run_firm r).books)) (rw q (framed_refl 0 (4 + 20 * w.state.numbers) w.books)) r

pub slots_firm : {w v : World} → v.state ≡ w.state → length v.slots ≡ length w.slots → v.pool ≡ w.pool → v.books ≡ w.books → Firm w → FirmGoes w v
slots_firm {w} {v} e s p q r = within_firm w v e s (ap length p) (rw q (go_refl r.books)) (rw q (framed_refl 0 (4 + 20 * w.state.numbers) w.books)) r
