-- The laws of the layout, over numbers: columns, slots and rows follow one another, and all of them lie in the lent slots.
use Prim.Native.Nat.{ℕ, zero, suc, ◌+◌, ◌*◌, ◌≤◌, ◌<◌}
use Rattle.std.specs.Prelude.{◌≡◌, true}
use Rattle.std.proofs.Math.Path.{refl}
use Rattle.std.proofs.Common.{ap}
use Rattle.std.specs.Prelude.{Option, None, Some}
use native.Mathlib.Omega.{arith}
use Rattle.std.proofs.Math.Nat.{add-mul, mul-le-mul_right}
use Rattle.std.proofs.Math.Decide.{dec_le}
use Rattle.kinds.specs.Kind.{Kind, Layout, fixed, view, layout_of, bytes_of, shown, kind_of, width_in, width_at, view_in, is_view}
use Rattle.state.specs.declared.BatchCoalescer.{BatchCoalescer}
use Rattle.state.specs.World.{column_of}
use Rattle.state.specs.Layout.{width_of, is_views, values_bytes, bitmap_bytes, list_bytes, columns_bytes, slot_bytes, values_place, bitmap_place, list_place, cell_place, slots_length}

-- every kind of views has rows of 16 bytes
shown-bytes : (l : Layout) → shown l ≡ true → bytes_of l ≡ 16
shown-bytes (fixed bits) e = cc
shown-bytes view e = refl

view_in_lem : (k : Option Kind) → view_in k ≡ true → width_in k ≡ Some 16
view_in_lem None e = cc
view_in_lem (Some k) e = ap Some (shown-bytes (layout_of k) e)

pub view-width : (n : ℕ) → is_view n ≡ true → width_at n ≡ Some 16
unfolding is_view width_at
view-width n e = view_in_lem (kind_of n) e

pub views_width : (s : BatchCoalescer) (c : ℕ) → is_views s c ≡ true → width_of s c ≡ 16
unfolding is_views width_of
views_width s c e = rw (view-width (column_of s c).kind e)

-- a bit for every row
pub bits_fit : (s : BatchCoalescer) → s.rows.0 ≤ 8 * bitmap_bytes s
unfolding bitmap_bytes
bits_fit s = omega arith

-- a word for every entry of a list of views
pub entries_fit : (s : BatchCoalescer) (c : ℕ) → is_views s c ≡ true → 4 * s.lists ≤ list_bytes s c
unfolding list_bytes
entries_fit s c e = rw e (omega arith)

-- one column more
pub columns_next : (s : BatchCoalescer) (c : ℕ) → columns_bytes s (suc c) ≡ columns_bytes s c + (values_bytes s c + (bitmap_bytes s + list_bytes s c))
unfolding columns_bytes
columns_next s c = omega arith

pub columns_grow : (s : BatchCoalescer) (c d : ℕ) → c ≤ d → columns_bytes s c ≤ columns_bytes s d
columns_grow s c zero h = let e : c ≡ 0 = omega arith in rw e (omega arith)
columns_grow s c (suc d) h = go (dec_le c d) (columns_grow s c d)
  where
    go : Dec (c ≤ d) → (c ≤ d → columns_bytes s c ≤ columns_bytes s d) → columns_bytes s c ≤ columns_bytes s (suc d)
    go (yes l) before = omega (arith, before l, columns_next s c, columns_next s d)
    go (no l) before = let e : c ≡ suc d = omega arith in rw e (omega arith)

-- within a column: the values, the bitmap, the list
module _ (s : BatchCoalescer) (slot c : ℕ) where
  pub bitmap_follows : bitmap_place s slot c ≡ values_place s slot c + values_bytes s c
  unfolding bitmap_place
  bitmap_follows = refl

  pub list_follows : list_place s slot c ≡ bitmap_place s slot c + bitmap_bytes s
  unfolding list_place
  list_follows = refl

  pub cell_starts : (i : ℕ) → values_place s slot c ≤ cell_place s slot c i
  unfolding cell_place
  cell_starts i = omega arith

  -- rows follow one another: n of them from row i on end where row j begins, or before
  pub rows_follow : (i n j : ℕ) → i + n ≤ j → cell_place s slot c i + n * width_of s c ≤ cell_place s slot c j
  unfolding cell_place
  rows_follow i n j h = omega (arith, add-mul i n (width_of s c), mul-le-mul_right (width_of s c) h)

  pub row_follows : (i j : ℕ) → i < j → cell_place s slot c i + width_of s c ≤ cell_place s slot c j
  row_follows i j h = omega (arith, rows_follow i 1 j (omega arith))

  -- cells stay within the values
  pub cell_ends : (i n : ℕ) → i + n ≤ s.rows.0 → cell_place s slot c i + n * width_of s c ≤ bitmap_place s slot c
  unfolding bitmap_place cell_place values_bytes
  cell_ends i n h = omega (arith, rows_follow i n s.rows.0 h)

  -- entries stay within the list
  pub entry-ends : (i : ℕ) → is_views s c ≡ true → i < s.lists → list_place s slot c + 4 * i + 4 ≤ list_place s slot c + list_bytes s c
  entry-ends i e h = omega (arith, entries_fit s c e)

  -- columns follow one another
  pub column_follows : (d : ℕ) → c < d → list_place s slot c + list_bytes s c ≤ values_place s slot d
  unfolding list_place bitmap_place values_place
  column_follows d h = omega (arith, columns_next s c, columns_grow s (suc c) d h)

  -- and slots do
  pub slot_starts : slot * slot_bytes s ≤ values_place s slot c
  unfolding values_place
  slot_starts = omega arith

  pub slot_follows : (slot' : ℕ) → c < s.columns → slot < slot' → list_place s slot c + list_bytes s c ≤ slot' * slot_bytes s
  unfolding list_place bitmap_place values_place slot_bytes
  slot_follows slot' h k =
      omega (arith, columns_next s c, columns_grow s (suc c) s.columns h, mul-le-mul_right {m = suc slot} {n = slot'} (columns_bytes s s.columns) k)

-- in bounds: slot is one of the slots, c one of the columns
module _ (s : BatchCoalescer) (slot c : ℕ) (in_slots_lem : slot ≤ s.queue) (in_columns : c < s.columns) where
  -- the whole column
  pub column_in_lem : values_place s slot c + values_bytes s c + bitmap_bytes s + list_bytes s c ≤ slots_length s
  unfolding slots_length
  column_in_lem =
      omega (
        arith,
        bitmap_follows s slot c,
        list_follows s slot c,
        slot_follows s slot c (s.queue + 1) in_columns (omega arith),
      )

  -- n cells from row i on
  pub cell_in : (i n : ℕ) → i + n ≤ s.rows.0 → cell_place s slot c i + n * width_of s c ≤ slots_length s
  cell_in i n h = omega (arith, cell_ends s slot c i n h, bitmap_follows s slot c, column_in_lem)

  pub bitmap_in : bitmap_place s slot c + bitmap_bytes s ≤ slots_length s
  bitmap_in = omega (arith, bitmap_follows s slot c, column_in_lem)

  -- entry i of the list
  pub list_in : (i : ℕ) → is_views s c ≡ true → i < s.lists → list_place s slot c + 4 * i + 4 ≤ slots_length s
  list_in i e h = omega (arith, entry-ends s slot c i e h, list_follows s slot c, bitmap_follows s slot c, column_in_lem)
