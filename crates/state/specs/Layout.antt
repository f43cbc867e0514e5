-- Where things lie in slots and books: docs/LAYOUT.md as formulas.
use Rattle.std.specs.Prelude.{ℕ, zero, suc, ◌+◌, ◌*◌, ◌/◌, ◌-◌, Bool, cond, leb}
use Rattle.kinds.specs.Kind.{width_at, is_view}
use Rattle.tallies.specs.declared.Tally.{Tally}
use Rattle.tallies.specs.Tally.{tally_of}
use Rattle.state.specs.declared.BatchCoalescer.{BatchCoalescer}
use Rattle.state.specs.World.{World, column_of}
use Rattle.std.specs.Prelude.{Option, Some, None}

abbrev pub bytes_in : Option ℕ → ℕ
bytes_in (Some w) = w
bytes_in None = 0

-- the bytes of one row of column c, and whether it is a column of views
unfoldable pub width_of : BatchCoalescer → ℕ → ℕ
width_of s c = bytes_in (width_at (column_of s c).kind)

unfoldable pub is_views : BatchCoalescer → ℕ → Bool
is_views s c = is_view (column_of s c).kind

-- the parts of a column in a slot. 01: "A slot holds R rows of each column, a validity bitmap and a list of up to B buffer
-- numbers per column." (DECISIONS, "Only view columns have room for a list")
unfoldable pub values_bytes : BatchCoalescer → ℕ → ℕ
values_bytes s c = s.rows.0 * width_of s c

unfoldable pub bitmap_bytes : BatchCoalescer → ℕ
bitmap_bytes s = (s.rows.0 + 7) / 8

unfoldable pub list_bytes : BatchCoalescer → ℕ → ℕ
list_bytes s c = cond (is_views s c) (4 * s.lists) 0

-- the bytes of the first c columns of a slot, and of a slot
unfoldable pub columns_bytes : BatchCoalescer → ℕ → ℕ
columns_bytes s zero = 0
columns_bytes s (suc c) = columns_bytes s c + (values_bytes s c + (bitmap_bytes s + list_bytes s c))

unfoldable pub slot_bytes : BatchCoalescer → ℕ
slot_bytes s = columns_bytes s s.columns

-- where column c of a slot has its values, its bitmap, its list
unfoldable pub values_place : BatchCoalescer → ℕ → ℕ → ℕ
values_place s slot c = slot * slot_bytes s + columns_bytes s c

unfoldable pub bitmap_place : BatchCoalescer → ℕ → ℕ → ℕ
bitmap_place s slot c = values_place s slot c + values_bytes s c

unfoldable pub list_place : BatchCoalescer → ℕ → ℕ → ℕ
list_place s slot c = bitmap_place s slot c + bitmap_bytes s

-- where row i of column c of a slot begins
unfoldable pub cell_place : BatchCoalescer → ℕ → ℕ → ℕ → ℕ
cell_place s slot c i = values_place s slot c + i * width_of s c

-- the lengths of lent memory. 01: "The lengths of lent memory that follow are formulas in docs/."
unfoldable pub slots_length : BatchCoalescer → ℕ
slots_length s = (s.queue + 1) * slot_bytes s

unfoldable pub books_length : BatchCoalescer → ℕ
books_length s = 4 + 20 * s.numbers + 4 * (1 + s.columns) * (s.queue + 1)

-- which count: word 0 of a slot is its rows, word c + 1 the list length of column c
abbrev pub tally : BatchCoalescer → ℕ → ℕ → Tally
tally s slot k = record { numbers = s.numbers; columns = s.columns; slot = slot; word = k }

-- the rows of a queued slot (DECISIONS 8: those of the slot being filled are `buffered`), and the length of the list of a column of it, as the books have them
unfoldable pub rows_in : World → ℕ → ℕ
rows_in w slot = tally_of w.books (tally w.state slot 0)

unfoldable pub list_length : World → ℕ → ℕ → ℕ
list_length w slot c = tally_of w.books (tally w.state slot (c + 1))

-- slots in turn. 01: "Q + 1, used in turn, after the last the first": the slot behind one, and k slots before one
unfoldable pub next_slot : BatchCoalescer → ℕ → ℕ
next_slot s slot = cond (leb s.queue slot) 0 (slot + 1)

unfoldable pub slot_before : BatchCoalescer → ℕ → ℕ → ℕ
slot_before s slot k = cond (leb k slot) (slot - k) (slot + (s.queue + 1) - k)

-- the slot of the k-th queued batch, the front one 0: the slots queued lie before the one being filled
unfoldable pub queued_slot : BatchCoalescer → ℕ → ℕ
queued_slot s k = slot_before s s.place (s.queued - k)
