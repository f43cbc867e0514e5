-- Columns one after another: a running place is where the next column begins, and a column put by its kind is a column of the front batch.
use Rattle.std.specs.Prelude.{ℕ, ◌+◌, ◌*◌, ◌/◌, ◌≤◌, ◌<◌, ◌≡◌, List, [], get_or}
use Rattle.std.proofs.Math.Path.{refl}
use Rattle.std.proofs.Common.{◌∙◌, ap, Fits}
use native.Mathlib.Omega.{arith}
use Rattle.std.proofs.Math.Numerals.{add-one}
use Rattle.std.specs.Int.{w64}
use Rattle.words.specs.Word.{with_word32}
use Rattle.kinds.specs.Kind.{width_at}
use Rattle.state.specs.declared.BatchCoalescer.{BatchCoalescer}
use Rattle.state.specs.World.{world, column_of, no_column}
use Rattle.state.specs.Layout.{bytes_in, width_of, values_bytes, bitmap_bytes, columns_bytes, values_place, bitmap_place, list_place, cell_place, list_length, queued_slot}
use Rattle.layout.specs.Few.{size_of_kind}
use Rattle.layout.specs.ExitLaws.{values_small, column_kind}
use Rattle.ranges.specs.Passed.{PassedTests, passed_few, passed_column}
use Rattle.fronts.specs.Front.{front_column, places_put, column_put, columns_put}
use Rattle.fronts.specs.Placed.{column_of_kind}

-- ---- one column

-- no place is large
module _ (place rows w : ℕ) (h : place ≤ 36000000000) (p : rows ≤ 65536) (q : w ≤ 32) where
  pub bitmap_fits : Fits w64 (place + rows * w)
  bitmap_fits = record { fits = omega (arith, values_small rows w p q) }

  pub list-fits : Fits w64 (place + rows * w + (rows + 7) / 8)
  list-fits = record { fits = omega (arith, values_small rows w p q) }

-- its 32 bytes
pub column_is : (kind rows place count c : ℕ) (out : List ℕ) {width : ℕ} {a b d : List ℕ} → width ≡ bytes_in (width_at kind) → a ≡ places_put out (32 * c) place (place + rows * width) (place + rows * width + (rows + 7) / 8) → b ≡ with_word32 a (32 * c + 24) count → d ≡ with_word32 b (32 * c + 28) width → d ≡ column_put out (32 * c) (column_of_kind kind rows place count)
unfolding column_put column_of_kind
column_is kind rows place count c out e f g h = rw (h, g, f, e)

-- it is a column of the front batch
module _ (s : BatchCoalescer) (slots books : List ℕ) (slot c : ℕ) where
  first_cell : cell_place s slot c 0 ≡ values_place s slot c
  unfolding cell_place
  first_cell = omega arith

  pub placed_is : {place count : ℕ} → slot ≡ queued_slot s 0 → place ≡ values_place s slot c → count ≡ list_length (world s [] [] books) slot c → column_of_kind (get_or s.column c no_column).kind s.rows.0 place count ≡ front_column (world s slots [] books) c
  unfolding column_of_kind front_column list_place bitmap_place values_bytes bitmap_bytes width_of column_of list_length
  placed_is o p q = rw (p, q, ← o, first_cell)

-- ---- every column

module _ (s : BatchCoalescer) (slots books out : List ℕ) (slot : ℕ) where
  pub columns_none : out ≡ columns_put (world s slots [] books) out 0
  unfolding columns_put
  columns_none = refl

  pub columns_more : (c : ℕ) {place count : ℕ} {a b : List ℕ} → slot ≡ queued_slot s 0 → place ≡ values_place s slot c → count ≡ list_length (world s [] [] books) slot c → a ≡ columns_put (world s slots [] books) out c → b ≡ column_put a (32 * c) (column_of_kind (get_or s.column c no_column).kind s.rows.0 place count) → b ≡ columns_put (world s slots [] books) out (c + 1)
  unfolding columns_put
  columns_more c o e f p q = rw add-one (rw (q, p, placed_is s slots books slot c o e f))

  pub columns_done : (c : ℕ) {a : List ℕ} → a ≡ columns_put (world s slots [] books) out c → c ≤ s.columns → s.columns ≤ c → a ≡ columns_put (world s slots [] books) out s.columns
  columns_done c p h l = p ∙ ap (columns_put (world s slots [] books) out) (omega arith)

-- what a turn asks of a state that passed the tests
module _ (s : BatchCoalescer) (slots books : List ℕ) (p : PassedTests s slots books) where
  pub rows_few : s.rows.0 ≤ 65536
  rows_few = (passed_few s slots books p).rows

  pub lists_few : s.lists ≤ 1024
  lists_few = (passed_few s slots books p).lists

  pub place_low : {c place : ℕ} → c < s.columns → place ≤ 35000000000 + 2109440 * c → place ≤ 36000000000
  place_low h l = omega (arith, passed_column s slots books p h)

  pub place-fits : {c place r : ℕ} → c < s.columns → place ≤ 35000000000 + 2109440 * c → r ≤ 2109440 → Fits w64 (place + r)
  place-fits h l m = record { fits = omega (arith, passed_column s slots books p h) }

-- where the next one begins
pub place-more : (s : BatchCoalescer) (slot c : ℕ) {place r : ℕ} → place ≡ values_place s slot c → r ≡ size_of_kind (get_or s.column c no_column).kind s.rows.0 s.lists → place + r ≡ values_place s slot (c + 1)
unfolding values_place
place-more s slot c {place} {r} e q =
    let b : columns_bytes s c + r ≡ columns_bytes s (c + 1) = column_kind s c refl q in omega (arith, e, b)
