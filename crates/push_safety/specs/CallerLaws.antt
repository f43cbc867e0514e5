-- What the code asks before it reads or writes, from Run and Readable: places in books, slots, pool and body.
use Rattle.std.specs.Prelude.{ℕ, ◌+◌, ◌*◌, ◌≤◌, ◌<◌, ◌^◌, ◌≡◌, true, length}
use native.Mathlib.Omega.{arith}
use Rattle.std.proofs.Math.Nat.{add-mul, mul-le-mul_right}
use Rattle.tallies.specs.Tally.{tally_place}
use Rattle.books.specs.Entry.{used_of, entry_of}
use Rattle.listings.specs.Listing.{Listed}
use Rattle.state.specs.World.{World}
use Rattle.state.specs.Layout.{width_of, is_views, bitmap_bytes, bitmap_place, list_place, cell_place, tally}
use Rattle.state.proofs.LayoutLaws.{cell_in, bitmap_in, list_in}
use Rattle.rules.specs.Batch.{Batch, record_of, listed_number, list_of, value_place, row_view}
use Rattle.rules.specs.Views.{filling, source_place}
use Rattle.push_safety.specs.Run.{Run, Readable}
use Rattle.push_safety.specs.TestedLaws.{Bounds, bounds_say}
use Rattle.push_safety.specs.ReadLaws.{held_used}
use Rattle.push_safety.specs.Firm.{run_firm}
use Rattle.push_safety.specs.StepGoes.{tally_room}
use Rattle.push_safety.specs.AttachGoes.{listed-length, listed_used}

-- ---- memories

module _ {w : World} (r : Run w) where
  pub run_bounds : Bounds w.state
  run_bounds = bounds_say w.state r.fit.bounds

  -- an entry for each number, and for each in use
  pub entries_room : 4 + 20 * w.state.numbers ≤ length w.books
  entries_room = (run_firm r).books.roomy.room

  pub used_room : 4 + 20 * used_of w.books ≤ length w.books
  used_room = omega (arith, entries_room, r.used)

  pub entry_room : (k : ℕ) → k < used_of w.books → 24 + 20 * k ≤ length w.books
  entry_room k h = omega (arith, used_room)

  -- a pool that a word can count, with every buffer in use in it
  pub pool_small : length w.pool < 2 ^ 32
  pool_small = omega (arith, run_bounds.pool, r.fit.pool_is)

  pub buffer_in_lem : (k : ℕ) → k < used_of w.books → (entry_of w.books k).start + (entry_of w.books k).length.0 ≤ length w.pool
  buffer_in_lem k h = omega (arith, r.inside k h, r.filled k h, r.fit.pool_is)

  -- a count of a slot: word 0, or word c + 1 of column c
  pub count_room : (slot k : ℕ) → slot ≤ w.state.queue → k ≤ w.state.columns → tally_place (tally w.state slot k) + 4 ≤ length w.books
  count_room slot k h l = tally_room slot k (run_firm r) h l

  -- n rows, the bitmap and a place of the list in the slot being filled
  module _ (c : ℕ) (h : c < w.state.columns) where
    pub cells_room : (i n : ℕ) → i + n ≤ w.state.rows.0 → cell_place w.state (filling w) c i + n * width_of w.state c ≤ length w.slots
    cells_room i n l = omega (arith, cell_in w.state (filling w) c r.fit.place h i n l, r.fit.slots_are)

    pub bitmap_room : bitmap_place w.state (filling w) c + bitmap_bytes w.state ≤ length w.slots
    bitmap_room = omega (arith, bitmap_in w.state (filling w) c r.fit.place h, r.fit.slots_are)

    pub list_room : (i : ℕ) → is_views w.state c ≡ true → i < w.state.lists → list_place w.state (filling w) c + 4 * i + 4 ≤ length w.slots
    list_room i y l = omega (arith, list_in w.state (filling w) c r.fit.place h i y l, r.fit.slots_are)

-- ---- the batch

module _ {w : World} {b : Batch} (x : Readable w b) where
  pub record_room : (c : ℕ) → c < w.state.columns → 32 * c + 32 ≤ length b.records
  record_room c h = omega (arith, x.records_are)

  -- n rows of column c from row `from` on
  pub values_room : (c from n : ℕ) → c < w.state.columns → from + n ≤ b.rows → value_place w b c from + n * width_of w.state c ≤ length b.body
  unfolding value_place
  values_room c from n h l =
      omega (
        arith,
        (x.columns c h).values,
        add-mul from n (width_of w.state c),
        mul-le-mul_right {m = from + n} {n = b.rows} (width_of w.state c) l,
      )

  -- place i of the list of column c
  pub listed_room : (c i : ℕ) → c < w.state.columns → i < (record_of b c).count → (record_of b c).list + 4 * i + 4 ≤ length b.body
  listed_room c i h l = omega (arith, (x.columns c h).listed)

  module _ (r : Run w) (c i : ℕ) (h : c < w.state.columns) (l : i < (record_of b c).count) where
    pub listed_in_use : listed_number b c i < used_of w.books
    listed_in_use = held_used w.books (listed_number b c i) ((x.columns c h).held i l)

    pub listed-number : listed_number b c i < w.state.numbers
    listed-number = omega (arith, listed_in_use, r.used)

    pub listed-entry : 24 + 20 * listed_number b c i ≤ length w.books
    listed-entry = entry_room r (listed_number b c i) listed_in_use

  -- what listing a whole list asks
  pub list-listed : Run w → (c : ℕ) → c < w.state.columns → Listed w.books w.state.numbers (list_of b c) (record_of b c).count
  list-listed r c h =
      record {
        room = entries_room r;
        used = r.used;
        list_room = omega (arith, listed-length b c (x.columns c h));
        below = λ i l. omega (arith, listed_used b c (x.columns c h) i l, r.used);
      }

  -- a long view: its index is in the list, its bytes are in the pool
  module _ (c i : ℕ) (h : c < w.state.columns) (y : is_views w.state c ≡ true) (l : i < b.rows) (t : 12 < (row_view w b c i).length) where
    pub long-index : (row_view w b c i).index < (record_of b c).count
    long-index = (x.long c i h y l t).index

    pub long-source : Run w → source_place w b c (row_view w b c i) + (row_view w b c i).length ≤ length w.pool
    long-source r = omega (arith, (x.long c i h y l t).source, r.fit.pool_is)
