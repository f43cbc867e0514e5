-- The laws of things in the lent slots: they are in bounds, and different things lie apart.
use Rattle.std.specs.Prelude.{ℕ, ◌+◌, ◌≤◌, ◌<◌, ◌≡◌}
use Rattle.std.proofs.Common.{sym, arith}
use Rattle.std.proofs.Math.Decide.{dec_lt}
use Rattle.words.specs.Frame.{Apart, under, over}
use Rattle.words.specs.FrameLaws.{apart_part}
use Rattle.state.specs.declared.BatchCoalescer.{BatchCoalescer}
use Rattle.state.specs.Layout.{width_of, list_bytes, values_place, list_place, cell_place, slots_length}
use Rattle.state.proofs.LayoutLaws.{
  cell_starts,
  bitmap_follows,
  list_follows,
  cell_ends,
  entry-ends,
  rows_follow,
  column_follows,
  slot_starts,
  slot_follows,
  column_in_lem,
}
use Rattle.state.specs.Where.{
  Where,
  cells,
  bitmap,
  listed,
  start_of,
  size_of,
  slot_in,
  column_in,
  part_in,
  first_in,
  end_in,
  Inside,
  cells_inside,
  bitmap_inside,
  listed_inside,
  Other,
  other_slot,
  other_column,
  other_part,
  before,
  behind,
}

-- a thing lies in its column: behind its beginning, before its end
pub starts : (s : BatchCoalescer) (a : Where) → values_place s (slot_in a) (column_in a) ≤ start_of s a
starts s (cells slot c i n) = cell_starts s slot c i
starts s (bitmap slot c) = omega (arith, bitmap_follows s slot c)
starts s (listed slot c i) = omega (arith, bitmap_follows s slot c, list_follows s slot c)

pub ends : (s : BatchCoalescer) {a : Where} → Inside s a → start_of s a + size_of s a ≤ list_place s (slot_in a) (column_in a) + list_bytes s (column_in a)
ends s (cells_inside {slot} {c} {i} {n} p q h) =
    omega (arith, cell_ends s slot c i n h, list_follows s slot c)
ends s (bitmap_inside {slot} {c} p q) = omega (arith, list_follows s slot c)
ends s (listed_inside {slot} {c} {i} p q e h) = entry-ends s slot c i e h

-- its slot is one of the slots, its column one of the columns
in_slots_lem : (s : BatchCoalescer) {a : Where} → Inside s a → slot_in a ≤ s.queue
in_slots_lem s (cells_inside p q h) = p
in_slots_lem s (bitmap_inside p q) = p
in_slots_lem s (listed_inside p q e h) = p

in_columns : (s : BatchCoalescer) {a : Where} → Inside s a → column_in a < s.columns
in_columns s (cells_inside p q h) = q
in_columns s (bitmap_inside p q) = q
in_columns s (listed_inside p q e h) = q

-- in bounds
pub inside_in : (s : BatchCoalescer) (a : Where) → Inside s a → start_of s a + size_of s a ≤ slots_length s
inside_in s a h =
    omega (
      arith,
      ends s h,
      bitmap_follows s (slot_in a) (column_in a),
      list_follows s (slot_in a) (column_in a),
      column_in_lem s (slot_in a) (column_in a) (in_slots_lem s h) (in_columns s h),
    )

-- the order of two things: by slot, by column, by part, by place
data Ahead (a b : Where) : Type 0 where
  by_slot : slot_in a < slot_in b → Ahead a b
  by_column : slot_in a ≡ slot_in b → column_in a < column_in b → Ahead a b
  by_part : slot_in a ≡ slot_in b → column_in a ≡ column_in b → part_in a < part_in b → Ahead a b
  by_place : slot_in a ≡ slot_in b → column_in a ≡ column_in b → part_in a ≡ part_in b → end_in a ≤ first_in b → Ahead a b

-- by part: the end of each part is the beginning of the next
part_ahead : (s : BatchCoalescer) {a : Where} (b : Where) → Inside s a → slot_in a ≡ slot_in b → column_in a ≡ column_in b → part_in a < part_in b → start_of s a + size_of s a ≤ start_of s b
part_ahead s (cells slot' d j m) (cells_inside p q h) e f l = absurd (omega arith)
part_ahead s (bitmap slot' d) (cells_inside {slot} {c} {i} {n} p q h) e f l = rw (← e, ← f) (cell_ends s slot c i n h)
part_ahead s (listed slot' d j) (cells_inside {slot} {c} {i} {n} p q h) e f l =
    rw (← e, ← f) (omega (arith, cell_ends s slot c i n h, list_follows s slot c))
part_ahead s (cells slot' d j m) (bitmap_inside p q) e f l = absurd (omega arith)
part_ahead s (bitmap slot' d) (bitmap_inside p q) e f l = absurd (omega arith)
part_ahead s (listed slot' d j) (bitmap_inside {slot} {c} p q) e f l = rw (← e, ← f) (omega (arith, list_follows s slot c))
part_ahead s (cells slot' d j m) (listed_inside p q v h) e f l = absurd (omega arith)
part_ahead s (bitmap slot' d) (listed_inside p q v h) e f l = absurd (omega arith)
part_ahead s (listed slot' d j) (listed_inside p q v h) e f l = absurd (omega arith)

-- by place, in one part
place-ahead : (s : BatchCoalescer) (a b : Where) → slot_in a ≡ slot_in b → column_in a ≡ column_in b → part_in a ≡ part_in b → end_in a ≤ first_in b → start_of s a + size_of s a ≤ start_of s b
place-ahead s (cells slot c i n) (cells slot' d j m) e f g l = rw (← e, ← f) (rows_follow s slot c i n j l)
place-ahead s (cells slot c i n) (bitmap slot' d) e f g l = absurd (omega arith)
place-ahead s (cells slot c i n) (listed slot' d j) e f g l = absurd (omega arith)
place-ahead s (bitmap slot c) (cells slot' d j m) e f g l = absurd (omega arith)
place-ahead s (bitmap slot c) (bitmap slot' d) e f g l = absurd (omega arith)
place-ahead s (bitmap slot c) (listed slot' d j) e f g l = absurd (omega arith)
place-ahead s (listed slot c i) (cells slot' d j m) e f g l = absurd (omega arith)
place-ahead s (listed slot c i) (bitmap slot' d) e f g l = absurd (omega arith)
place-ahead s (listed slot c i) (listed slot' d j) e f g l = rw (← e, ← f) (omega arith)

-- what is ahead ends where the other begins, or before
ahead-ends : (s : BatchCoalescer) (a b : Where) → Inside s a → Ahead a b → start_of s a + size_of s a ≤ start_of s b
ahead-ends s a b h (by_slot l) =
    omega (
      arith,
      ends s h,
      slot_follows s (slot_in a) (column_in a) (slot_in b) (in_columns s h) l,
      slot_starts s (slot_in b) (column_in b),
      starts s b,
    )
ahead-ends s a b h (by_column e l) =
    omega (arith, rw e at (ends s h), column_follows s (slot_in b) (column_in a) (column_in b) l, starts s b)
ahead-ends s a b h (by_part e f l) = part_ahead s b h e f l
ahead-ends s a b h (by_place e f g l) = place-ahead s a b e f g l

-- of two different things one is ahead
data Sides (a b : Where) : Type 0 where
  ahead : Ahead a b → Sides a b
  after : Ahead b a → Sides a b

-- less, the same, or more
data Order (m n : ℕ) : Type 0 where
  less : m < n → Order m n
  same : m ≡ n → Order m n
  more : n < m → Order m n

order : (m n : ℕ) → Order m n
order m n = go (dec_lt m n) (dec_lt n m)
  where
    go : Dec (m < n) → Dec (n < m) → Order m n
    go (yes p) d = less p
    go (no p) (yes q) = more q
    go (no p) (no q) = same (omega arith)

sides : (a b : Where) → Other a b → Sides a b
sides a b o = by_slots (order (slot_in a) (slot_in b))
  where
    by_places : slot_in a ≡ slot_in b → column_in a ≡ column_in b → part_in a ≡ part_in b → Other a b → Sides a b
    by_places e f g (other_slot n) = absurd (n e)
    by_places e f g (other_column n) = absurd (n f)
    by_places e f g (other_part n) = absurd (n g)
    by_places e f g (before l) = ahead (by_place e f g l)
    by_places e f g (behind l) = after (by_place (sym e) (sym f) (sym g) l)

    by_parts : slot_in a ≡ slot_in b → column_in a ≡ column_in b → Order (part_in a) (part_in b) → Sides a b
    by_parts e f (less l) = ahead (by_part e f l)
    by_parts e f (same g) = by_places e f g o
    by_parts e f (more l) = after (by_part (sym e) (sym f) l)

    by_columns : slot_in a ≡ slot_in b → Order (column_in a) (column_in b) → Sides a b
    by_columns e (less l) = ahead (by_column e l)
    by_columns e (same f) = by_parts e f (order (part_in a) (part_in b))
    by_columns e (more l) = after (by_column (sym e) l)

    by_slots : Order (slot_in a) (slot_in b) → Sides a b
    by_slots (less l) = ahead (by_slot l)
    by_slots (same e) = by_columns e (order (column_in a) (column_in b))
    by_slots (more l) = after (by_slot l)

-- different things lie apart
pub other_apart : (s : BatchCoalescer) (a b : Where) → Inside s a → Inside s b → Other a b → Apart (start_of s a) (start_of s a + size_of s a) (start_of s b) (size_of s b)
other_apart s a b h k o = go (sides a b o)
  where
    go : Sides a b → Apart (start_of s a) (start_of s a + size_of s a) (start_of s b) (size_of s b)
    go (ahead p) = over (ahead-ends s a b h p)
    go (after p) = under (ahead-ends s b a k p)

-- one row, as it is read
pub row_apart : (s : BatchCoalescer) (a : Where) (slot c i : ℕ) → Inside s a → Inside s (cells slot c i 1) → Other a (cells slot c i 1) → Apart (start_of s a) (start_of s a + size_of s a) (cell_place s slot c i) (width_of s c)
row_apart s a slot c i h k o =
    apart_part (start_of s a) (start_of s a + size_of s a) (cell_place s slot c i) (width_of s c) (other_apart s a (cells slot c i 1) h k o)
    (omega arith)
    (omega arith)
    (omega arith)
    (omega arith)
