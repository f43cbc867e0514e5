-- The rows that are read through the places of a match's slot are the rows of that slot, which is not the one being filled.
use Prim.Native.Nat.{ℕ, zero, suc, ◌+◌, ◌*◌}
use Rattle.std.specs.Prelude.{◌≡◌, ◌≢◌, Bool, true, false, cond, List, []}
use Rattle.std.proofs.Math.Path.{refl, ap}
use Rattle.std.proofs.Common.{◌∙◌}
use borrow.Author.Tests.{ne_eqb}
use Rattle.words.specs.Word.{word32}
use Rattle.bits.specs.Bits.{bits_from}
use Rattle.views.specs.declared.View.{View}
use Rattle.views.specs.View.{view_of, shows}
use Rattle.state.specs.World.{World}
use Rattle.state.specs.Layout.{width_of, is_views, bitmap_place, cell_place, list_length}
use Rattle.state.specs.Rows.{up_to, listed_at, buffer_at, cell_of, slot_cell, slot_row, slot_rows}
use Rattle.match_rows.specs.declared.Places.{Places}
use Rattle.match_rows.specs.Placed.{places_in, places_of, plain_at, buffer_of, placed_row, placed_rows}
use Rattle.match_rows.specs.ColumnLaws.{Match, number-width, side_width, event_width, name_width, number_plain, side_plain, event_plain, name_views, number-bits, side_bits, event_bits, name_bits, number_cell, side_cell, event_cell, name_cell, list_at}

-- ---- a cell

-- one that is no view
cell_plain : (w : World) (slot c i : ℕ) {bitmap at width : ℕ} → is_views w.state c ≡ false → bitmap_place w.state slot c ≡ bitmap → cell_place w.state slot c i ≡ at → width_of w.state c ≡ width → slot_cell w slot c i ≡ plain_at w.slots bitmap i at width
unfolding slot_cell cell_of
cell_plain w slot c i v b a k = rw (v, b, a, k)

-- a view shows the same where its buffer is the same
shows_same : (v : View) (f g : ℕ → List ℕ) → f v.index ≡ g v.index → shows v f ≡ shows v g
unfolding shows
shows_same v f g e = rw e

cell_views : (w : World) (slot c i : ℕ) (g : ℕ → List ℕ) {bitmap at width : ℕ} → is_views w.state c ≡ true → bitmap_place w.state slot c ≡ bitmap → cell_place w.state slot c i ≡ at → width_of w.state c ≡ width → ((j : ℕ) → buffer_at w slot c j ≡ g j) → slot_cell w slot c i ≡ cell_of true (bits_from w.slots bitmap 0 i) w.slots at width g
unfolding slot_cell cell_of
cell_views w slot c i g {bitmap} {at} {width} v b a k e = rw (v, b, a, shows_same (view_of w.slots at) (buffer_at w slot c) g (e (view_of w.slots at).index))

-- nothing either way
neither : (b : Bool) → ◌≡◌ {A = List ℕ} (cond b [] []) []
neither true = refl
neither false = refl

module _ (w : World) (slot : ℕ) (m : Match w.state) (other : slot ≢ w.state.place) where
  -- the places in the slot
  abbrev p : Places
  p = places_in slot w.state.rows.0 w.state.lists (list_length w slot 3)

  same-list : (j : ℕ) → listed_at w slot 3 j ≡ word32 w.slots (p.list + 4 * j)
  unfolding listed_at
  same-list j = ap (λ (a : ℕ). word32 w.slots (a + 4 * j)) (list_at w.state m slot (list_length w slot 3))

  -- the buffer at an index
  same_buffer : (j : ℕ) → buffer_at w slot 3 j ≡ buffer_of w.slots w.pool w.books p j
  unfolding buffer_at buffer_of places_in
  same_buffer j = rw (same-list j, ne_eqb slot w.state.place other, neither)

  -- ---- a row, and rows

  module _ (i : ℕ) where
    four_cells : up_to 4 (λ c. slot_cell w slot c i) ≡ placed_row w.slots w.pool w.books p i
    unfolding up_to placed_row places_in
    four_cells =
        rw (cell_plain w slot 0 i (number_plain w.state m) (number-bits w.state m slot n) (number_cell w.state m slot n i) (number-width w.state m), cell_plain w slot 1 i (side_plain w.state m) (side_bits w.state m slot n) (side_cell w.state m slot n i) (side_width w.state m), cell_plain w slot 2 i (event_plain w.state m) (event_bits w.state m slot n) (event_cell w.state m slot n i) (event_width w.state m), cell_views w slot 3 i (buffer_of w.slots w.pool w.books p) (name_views w.state m) (name_bits w.state m slot n) (name_cell w.state m slot n i) (name_width w.state m) same_buffer)
      where
        n : ℕ
        n = list_length w slot 3

    pub row_is : slot_row w slot i ≡ placed_row w.slots w.pool w.books p i
    unfolding slot_row
    row_is = ap (λ (n : ℕ). up_to n (λ c. slot_cell w slot c i)) m.columns ∙ four_cells

  pub rows_are : (n : ℕ) → slot_rows w slot n ≡ placed_rows w.slots w.pool w.books (places_of w slot) n
  unfolding slot_rows placed_rows places_of up_to
  rows_are zero = refl
  rows_are (suc n) = rw (rows_are n, row_is n)
