-- What a row is: null, or the bytes that it shows, in each column; the rows queued, the rows buffered, the rows of a batch.
-- This is what the order of rows is about.
use Rattle.std.specs.Prelude.{ℕ, zero, suc, ◌+◌, ◌*◌, Bool, cond, List, [], ◌∷◌, ◌++◌, ltb, eqb}
use Rattle.words.specs.Word.{word32}
use Rattle.words.specs.Run.{read}
use Rattle.bits.specs.Bits.{bits_from}
use Rattle.views.specs.View.{view_of, shows}
use Rattle.sound.specs.Sound.{filled_bytes}
use Rattle.state.specs.World.{World, column_of}
use Rattle.state.specs.Layout.{width_of, is_views, bitmap_place, list_place, cell_place, rows_in, list_length, queued_slot}
use Rattle.std.specs.Prelude.{Option, Some, None}
use Rattle.counts.specs.declared.BufferNumber.{BufferNumber}

-- a row of one column. 01: "a row is null or a value"
pub data Cell : Type 0 where
  null : Cell
  value : List ℕ → Cell

-- a row: its cell in each column, the first column first
abbrev pub Row : Type 0
Row = List Cell

-- f 0, f 1, .. up to n of them
unfoldable pub up_to {ℓ} : {A : Type ℓ} → ℕ → (ℕ → A) → List A
up_to zero f = []
up_to (suc n) f = up_to n f ++ (f n ∷ [])

-- lists one behind the other
unfoldable pub joined {ℓ} : {A : Type ℓ} → List (List A) → List A
joined [] = []
joined (x ∷ xs) = x ++ joined xs

-- the number at place i of the list of column c of a slot. 01: "index in the list"
unfoldable pub listed_at : World → ℕ → ℕ → ℕ → ℕ
listed_at w slot c i = word32 w.slots (list_place w.state slot c + 4 * i)

-- the bytes of an open block, and no bytes where none is open
abbrev pub open_bytes : World → Option BufferNumber → List ℕ
open_bytes w (Some k) = filled_bytes w.books w.pool k.0
open_bytes w None = []

-- the bytes of the buffer at index i of column c of a slot: below the list's length of the number listed there; at the length, in the slot
-- being filled, of the open block (DECISIONS 7: "buffered long views carry index = list length meanwhile"); past it there are none
unfoldable pub buffer_at : World → ℕ → ℕ → ℕ → List ℕ
buffer_at w slot c i =
    cond (ltb i (list_length w slot c)) (filled_bytes w.books w.pool (listed_at w slot c i))
    (cond (eqb i (list_length w slot c)) (cond (eqb slot w.state.place) (open_bytes w (column_of w.state c).block) []) [])

-- a cell: a bit says whether it is null; its bytes stand in their place, or its view there shows them. 01: "Validity is one
-- bit a row, least significant bit first, 1 valid"
unfoldable pub cell_of : Bool → ℕ → List ℕ → ℕ → ℕ → (ℕ → List ℕ) → Cell
cell_of views bit memory place width buffers =
    cond (eqb bit 0) null
    (cond views (value (shows (view_of memory place) buffers)) (value (read place width memory)))

-- the cell of row i of column c of a slot
unfoldable pub slot_cell : World → ℕ → ℕ → ℕ → Cell
slot_cell w slot c i =
    cell_of (is_views w.state c) (bits_from w.slots (bitmap_place w.state slot c) 0 i) w.slots
    (cell_place w.state slot c i)
    (width_of w.state c)
    (buffer_at w slot c)

-- row i of a slot, and its first n rows
unfoldable pub slot_row : World → ℕ → ℕ → Row
slot_row w slot i = up_to w.state.columns (λ c. slot_cell w slot c i)

unfoldable pub slot_rows : World → ℕ → ℕ → List Row
slot_rows w slot n = up_to n (slot_row w slot)

-- the queued batches, the front one first; their rows; and the rows buffered
unfoldable pub queued_batches : World → List (List Row)
queued_batches w =
    up_to w.state.queued (λ k. slot_rows w (queued_slot w.state k) (rows_in w (queued_slot w.state k)))

unfoldable pub queued_rows : World → List Row
queued_rows w = joined (queued_batches w)

unfoldable pub buffered_rows : World → List Row
buffered_rows w = slot_rows w w.state.place w.state.buffered.0

-- the front batch, the one that is queued longest, and its rows: what the next drop takes. 01: "A row taken is what it read as just before
-- its batch was dropped."
abbrev pub front_slot : World → ℕ
front_slot w = queued_slot w.state 0

unfoldable pub taken_rows : World → List Row
taken_rows w = slot_rows w (front_slot w) (rows_in w (front_slot w))
