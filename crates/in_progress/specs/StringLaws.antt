-- The views of a part with their bytes in the open block: what the code asks, and what it leaves.
use Prim.Native.Nat.{ℕ, ◌+◌, ◌*◌, ◌≤◌, ◌<◌}
use Rattle.std.specs.Prelude.{◌≡◌, refl, Bool, true, List, [], length}
use Rattle.std.proofs.Math.Path.{sym, ap}
use Rattle.std.proofs.Common.{◌∙◌, true≢false}
use native.Mathlib.Omega.{arith}
use borrow.Author.Tests.{le-leb}
use Rattle.search.specs.Cases.{by_cond}
use Rattle.search.specs.Every.{every_is}
use Rattle.counts.specs.declared.BufferNumber.{BufferNumber}
use Rattle.books.specs.declared.Entry.{Entry}
use Rattle.books.specs.Entry.{entry_of}
use Rattle.sound.specs.Change.{with_length}
use Rattle.views.specs.declared.View.{View}
use Rattle.views.specs.View.{is_inline, repointed}
use Rattle.primitive.specs.declared.Rows.{Rows}
use Rattle.byte_view.specs.Copying.{source_in, Entered, Spanned, Carriable}
use Rattle.byte_view.specs.FoldLaws.{long_mono}
use Rattle.byte_view.specs.RuleLaws.{views_are, source_place_is}
use Rattle.rules.specs.declared.ColumnRecord.{ColumnRecord}
use Rattle.rules.specs.Batch.{Batch, batch, record_of, value_place, row_view}
use Rattle.rules.specs.Copies.{views_at, long_to, views_put, bytes_carried, starts_fit}
use Rattle.rules.specs.Steps.{ok}
use Rattle.rules.specs.Views.{has_block, block_number, open_number, open_filled, source_place, views_from, long_before, views_compacted}
use Rattle.state.specs.declared.BatchCoalescer.{BatchCoalescer}
use Rattle.state.specs.declared.Column.{Column}
use Rattle.state.specs.World.{World, world, column_of}
use Rattle.state.specs.Layout.{width_of, cell_place, list_length}
use Rattle.state.proofs.LayoutLaws.{views_width}
use Rattle.push_safety.specs.CallerLaws.{run_bounds, pool_small, cells_room, values_room, long-index, long-source}
use Rattle.push_safety.specs.BlockGoes.{open_entry, open_inside}
use Rattle.columns.specs.SourceLaws.{list_same, sourceable}
use Rattle.in_progress.specs.Part.{RoomInOpen, long_of, compacting}
use Rattle.std.specs.Prelude.{Some, None}

-- ---- the world that is made, of the views, of where their bytes lie, and of numbers

module _ (w : World) (b : Batch) (p : Rows) where
  unfoldable made : (ℕ → View) → (View → ℕ) → ℕ → ℕ → ℕ → ℕ → ℕ → World
  made f g list filled start to number =
      record {
        state = w.state;
        slots = views_put (λ i. repointed list (filled + long_to f i) (f i)) w.slots to p.count.0;
        pool = bytes_carried f g w.pool (start + filled) p.count.0;
        books = with_length w.books number (filled + long_to f p.count.0);
      }

  made-same : {f f' : ℕ → View} {g g' : View → ℕ} {list list' filled filled' start start' to to' number number' : ℕ} → f ≡ f' → g ≡ g' → list ≡ list' → filled ≡ filled' → start ≡ start' → to ≡ to' → number ≡ number' → made f g list filled start to number ≡ made f' g' list' filled' start' to' number'
  made-same a b c d e f g = rw (a, b, c, d, e, f, g)

  abbrev f : ℕ → View
  f = views_from w b p.column p.from

  made-compacting : starts_fit f (open_filled w p.column) p.count.0 ≡ true → compacting w b p ≡ ok (made f (source_place w b p.column) (list_length w w.state.place p.column) (open_filled w p.column) (entry_of w.books (open_number w p.column)).start (cell_place w.state w.state.place p.column p.at) (open_number w p.column))
  unfolding compacting views_compacted made long_before
  made-compacting e = rw e

pub open_number_at : (s : BatchCoalescer) (slots pool books : List ℕ) (c : ℕ) {k : BufferNumber} → (column_of s c).block ≡ Some k → open_number (world s slots pool books) c ≡ k.0
unfolding open_number
open_number_at s slots pool books c o = ap block_number o

-- ---- what copy_strings asks

module _ {w : World} {b : Batch} {r : ColumnRecord} {p : Rows} (x : RoomInOpen w b r p) where
  abbrev c : ℕ
  c = p.column

  wide : width_of w.state c ≡ 16
  wide = views_width w.state c x.part.views

  pub value_at : value_place w b c p.from ≡ r.values + p.from * 16
  unfolding value_place
  value_at = rw (wide, x.part.part.recorded)

  pub cell_at : cell_place w.state w.state.place c p.at ≡ p.place + p.at * 16
  unfolding cell_place
  cell_at = rw (wide, x.part.part.placed)

  pub views_at_lem : views_from w b c p.from ≡ views_at b.body (r.values + p.from * 16)
  views_at_lem = views_are w b c wide p.from ∙ ap (views_at b.body) value_at

  pub source-at : source_place w b c ≡ source_in w.books b.body r.list
  source-at = source_place_is w b c ∙ ap (λ (z : ColumnRecord). source_in w.books b.body z.list) (sym x.part.part.recorded)

  -- view i is row from + i
  row_at : (i : ℕ) → views_at b.body (r.values + p.from * 16) i ≡ row_view w b c (p.from + i)
  row_at i = sym (ap (λ (g : ℕ → View). g i) views_at_lem)

  spanned : Spanned b.body (r.values + p.from * 16) (length w.slots) (p.place + p.at * 16) p.count.0
  spanned =
      record {
        few = omega (arith, x.part.part.room, (run_bounds x.part.part.run).rows);
        read =
            let l = values_room x.part.part.reads c p.from p.count.0 x.part.part.column x.part.part.there in
            rw (wide, value_at) at l;
        put =
            let l = cells_room x.part.part.run c x.part.part.column p.at p.count.0 x.part.part.room in
            rw (wide, cell_at) at l;
      }

  long-at : long_to (views_at b.body (r.values + p.from * 16)) p.count.0 ≡ long_of w b p
  unfolding long_of long_before
  long-at = sym (ap (λ (g : ℕ → View). long_to g p.count.0) views_at_lem)

  room_at : (entry_of w.books (open_number w c)).start + open_filled w c + long_to (views_at b.body (r.values + p.from * 16)) p.count.0 ≤ length w.pool
  room_at =
      omega (
        arith,
        open_inside c x.part.part.run x.part.part.column x.part.views x.is_open_lem,
        long-at,
        x.rest,
        x.part.part.run.fit.pool_is,
      )

  carriable : (index : ℕ) {start filled to : ℕ} → start ≡ (entry_of w.books (open_number w c)).start → filled ≡ open_filled w c → Carriable w.books b.body w.pool (record { from = r.values + p.from * 16; list = r.list; count = r.count; to = to; index = index; start = start }) p.count.0 filled
  carriable index {start} {filled} {to} se fe =
      record {
        entered =
            let e : Entered w.books b.body (record_of b c).list (record_of b c).count = (sourceable x.part.part.run x.part.part.reads c x.part.part.column).entered x.part.views in
            rw x.part.part.recorded e;
        index = λ i h l.
            let m : 12 < (row_view w b c (p.from + i)).length = rw (row_at i) at l in
            let q = long-index x.part.part.reads c (p.from + i) x.part.part.column x.part.views (below i h) m in
            rw (row_at i, x.part.part.recorded) q;
        source = λ i h l.
            let m : 12 < (row_view w b c (p.from + i)).length = rw (row_at i) at l in
            let q = long-source x.part.part.reads c (p.from + i) x.part.part.column x.part.views (below i h) m x.part.part.run in
            rw (row_at i, ← source-at) q;
        room = rw (se, fe) room_at;
        small = pool_small x.part.part.run;
      }
    where
      below : (i : ℕ) → i < p.count.0 → p.from + i < b.rows
      below i h = omega (arith, x.part.part.there)

  -- every copied view begins within a word
  starts : starts_fit (views_from w b c p.from) (open_filled w c) p.count.0 ≡ true
  unfolding starts_fit
  starts = every_is _ p.count.0 (λ i h. by_cond (λ (z : Bool). z ≡ true) (is_inline (views_from w b c p.from i)) (λ e. refl) (λ e. le-leb _ 4294967295 (small i h)))
    where
      small : (i : ℕ) → i < p.count.0 → open_filled w c + long_to (views_from w b c p.from) i ≤ 4294967295
      small i h =
          omega (
            arith,
            room_at,
            ap (λ (g : ℕ → View). long_to g p.count.0) views_at_lem,
            long_mono (views_from w b c p.from) i p.count.0 (omega arith),
            pool_small x.part.part.run,
          )

-- ---- the same as the code has it

module _ (s : BatchCoalescer) (slots pool books records body : List ℕ) (rows : ℕ) (r : ColumnRecord) (p : Rows) (k : BufferNumber) (x : RoomInOpen (world s slots pool books) (batch rows records body) r p) (o : (column_of s p.column).block ≡ Some k) where
  abbrev w : World
  w = world s slots pool books

  abbrev b : Batch
  b = batch rows records body

  number_at : open_number w p.column ≡ k.0
  number_at = open_number_at s slots pool books p.column o

  pub strings_entry : 24 + 20 * k.0 ≤ length books
  strings_entry = rw number_at at (open_entry p.column x.part.part.run x.part.part.column x.part.views x.is_open_lem)

  pub strings_spanned : Spanned body (r.values + p.from * 16) (length slots) (p.place + p.at * 16) p.count.0
  strings_spanned = spanned x

  module _ {block : Entry} (e : block ≡ entry_of books k.0) where
    start-at : block.start ≡ (entry_of books (open_number w p.column)).start
    start-at = rw (e, number_at)

    filled_at : block.length.0 ≡ open_filled w p.column
    unfolding open_filled
    filled_at = ap (λ (z : Entry). z.length.0) e ∙ ap (λ (n : ℕ). (entry_of books n).length.0) (sym number_at)

    pub strings_carriable : {index : ℕ} → Carriable books body pool (record { from = r.values + p.from * 16; list = r.list; count = r.count; to = p.place + p.at * 16; index = index; start = block.start }) p.count.0 block.length.0
    strings_carriable {index} = carriable x index start-at filled_at

    pub strings_done : {index filled : ℕ} {slots' pool' books' : List ℕ} → index ≡ list_length (world s [] [] books) s.place p.column → filled ≡ block.length.0 + long_to (views_at body (r.values + p.from * 16)) p.count.0
        → slots' ≡ views_put (λ i. repointed index (block.length.0 + long_to (views_at body (r.values + p.from * 16)) i) (views_at body (r.values + p.from * 16) i)) slots (p.place + p.at * 16) p.count.0
        → pool' ≡ bytes_carried (views_at body (r.values + p.from * 16)) (source_in books body r.list) pool (block.start + block.length.0) p.count.0
        → books' ≡ with_length books k.0 filled
        → compacting w b p ≡ ok (world s slots' pool' books')
    unfolding made
    strings_done {index} i f q u v =
        made-compacting w b p (starts x)
        ∙ ap ok
        (made-same w b p (views_at_lem x) (source-at x) (sym (list_same s slots pool books p.column s.place) ∙ sym i) (sym filled_at) (sym start-at) (cell_at x) number_at
        ∙ rw (q, u, v, f))

-- copy_into_open: its block is not closed
pub block_open : {s : BatchCoalescer} {slots pool books : List ℕ} {b : Batch} {r : ColumnRecord} {p : Rows} {block : Column} → RoomInOpen (world s slots pool books) b r p → block ≡ column_of s p.column → block.block ≡ None → ⊥
block_open x e q = true≢false (sym x.is_open_lem ∙ ap has_block (sym (ap (λ (z : Column). z.block) e) ∙ q))

pub block_at : (s : BatchCoalescer) (c : ℕ) {block : Column} {k : BufferNumber} → block ≡ column_of s c → block.block ≡ Some k → (column_of s c).block ≡ Some k
block_at s c e q = sym (ap (λ (z : Column). z.block) e) ∙ q
