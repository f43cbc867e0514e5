-- Things in the lent slots: where each begins and how long it is, which are in bounds, and which are different.
use Rattle.std.specs.Prelude.{ℕ, ◌+◌, ◌*◌, ◌≤◌, ◌<◌, ◌≡◌, ◌≢◌, true}
use Rattle.state.specs.declared.BatchCoalescer.{BatchCoalescer}
use Rattle.state.specs.Layout.{width_of, is_views, bitmap_bytes, bitmap_place, list_place, cell_place}

-- of a slot and a column: n cells from row i on, the bitmap, entry i of the list
pub data Where : Type 0 where
  cells : (slot c i n : ℕ) → Where
  bitmap : (slot c : ℕ) → Where
  listed : (slot c i : ℕ) → Where

-- its first byte, and how many bytes it has
abbrev pub start_of : BatchCoalescer → Where → ℕ
start_of s (cells slot c i n) = cell_place s slot c i
start_of s (bitmap slot c) = bitmap_place s slot c
start_of s (listed slot c i) = list_place s slot c + 4 * i

abbrev pub size_of : BatchCoalescer → Where → ℕ
size_of s (cells slot c i n) = n * width_of s c
size_of s (bitmap slot c) = bitmap_bytes s
size_of s (listed slot c i) = 4

-- what tells two things apart: its slot, its column, its part of the column, and its first place there and where it ends
abbrev pub slot_in : Where → ℕ
slot_in (cells slot c i n) = slot
slot_in (bitmap slot c) = slot
slot_in (listed slot c i) = slot

abbrev pub column_in : Where → ℕ
column_in (cells slot c i n) = c
column_in (bitmap slot c) = c
column_in (listed slot c i) = c

abbrev pub part_in : Where → ℕ
part_in (cells slot c i n) = 0
part_in (bitmap slot c) = 1
part_in (listed slot c i) = 2

abbrev pub first_in : Where → ℕ
first_in (cells slot c i n) = i
first_in (bitmap slot c) = 0
first_in (listed slot c i) = i

abbrev pub end_in : Where → ℕ
end_in (cells slot c i n) = i + n
end_in (bitmap slot c) = 1
end_in (listed slot c i) = i + 1

-- it is one of the things of the slots
pub data Inside (s : BatchCoalescer) : Where → Type 0 where
  cells_inside : {slot c i n : ℕ} → slot ≤ s.queue → c < s.columns → i + n ≤ s.rows.0 → Inside s (cells slot c i n)
  bitmap_inside : {slot c : ℕ} → slot ≤ s.queue → c < s.columns → Inside s (bitmap slot c)
  listed_inside : {slot c i : ℕ} → slot ≤ s.queue → c < s.columns → is_views s c ≡ true → i < s.lists → Inside s (listed slot c i)

-- two different things: one of these tells them apart, whatever the others are
pub data Other (a b : Where) : Type 0 where
  other_slot : slot_in a ≢ slot_in b → Other a b
  other_column : column_in a ≢ column_in b → Other a b
  other_part : part_in a ≢ part_in b → Other a b
  before : end_in a ≤ first_in b → Other a b
  behind : end_in b ≤ first_in a → Other a b
