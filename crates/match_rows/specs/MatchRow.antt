-- A row of a match, 02, K6: what a row of the front batch is to the strip, and what rows in order leave.
use Rattle.std.specs.Prelude.{ℕ, ◌+◌, ◌*◌, Bool, true, false, ◌&&◌, cond, length, get_or, eqb}
use mathlib.Core.List.{List, [], ◌∷◌, foldl}
use Rattle.words.specs.Word.{word32}
use Rattle.state.specs.declared.BatchCoalescer.{BatchCoalescer}
use Rattle.state.specs.World.{column_of}
use Rattle.state.specs.Rows.{Row, Cell, null, value}
use Rattle.outs.specs.Outs.{Strip, given_number, given_took}

-- 02, K6: "four columns: row number (UInt64), side 1 or 2 (UInt8), event 1 out, 2 revive (UInt8), player name (Utf8View ..)": kinds 8, 5, 5 and
-- 18 of 01's table. Where it is false: "30, a batch of other columns"
unfoldable pub is_match : BatchCoalescer → Bool
is_match s =
    eqb s.columns 4
    && (eqb (column_of s 0).kind 8
    && (eqb (column_of s 1).kind 5 && (eqb (column_of s 2).kind 5 && eqb (column_of s 3).kind 18)))

-- ---- a row's four values

-- 02, K6: "null", said the other way round, of every cell
abbrev pub no_null : Row → Bool
no_null [] = true
no_null (null ∷ row) = false
no_null (value bytes ∷ row) = no_null row

-- four cells, none of them null
unfoldable pub is_whole : Row → Bool
is_whole row = eqb (length row) 4 && no_null row

-- the bytes of a cell; a null has none
abbrev pub bytes_in : Cell → List ℕ
bytes_in null = []
bytes_in (value bytes) = bytes

-- of cell c of a row
unfoldable pub cell_bytes : Row → ℕ → List ℕ
cell_bytes row c = bytes_in (get_or row c null)

-- 02, K6: "row number (UInt64)", its lowest byte first
unfoldable pub number_in : Row → ℕ
number_in row = word32 (cell_bytes row 0) 0 + word32 (cell_bytes row 0) 4 * 4294967296

-- 02, K6: "side 1 or 2 (UInt8)"
unfoldable pub side_in : Row → ℕ
side_in row = get_or (cell_bytes row 1) 0 0

-- 02, K6: "event 1 out, 2 revive (UInt8)"
unfoldable pub event_in : Row → ℕ
event_in row = get_or (cell_bytes row 2) 0 0

-- 02, K6: "player name (Utf8View ..)"
unfoldable pub player_in : Row → List ℕ
player_in row = cell_bytes row 3

-- ---- what the strip makes of a row

-- 02, K6: "31 side, event, number or name null or out of range", then 32 to 35: the number of a row, 0 where it is accepted
unfoldable pub row_number : Strip → Row → ℕ
row_number s row = cond (is_whole row) (given_number s (number_in row) (side_in row) (event_in row) (player_in row)) 31

-- the strip after a row. 02, K6, of a refused one: "the row changing nothing"
unfoldable pub row_took : Strip → Row → Strip
row_took s row = cond (is_whole row) (given_took s (number_in row) (side_in row) (event_in row) (player_in row)) s

-- 02, K6: "the queue worked out from the rows in order"
unfoldable pub after_rows : Strip → List Row → Strip
after_rows s rows = foldl row_took s rows

-- the number of each row. A refused row does not stop those behind it
unfoldable pub row_numbers : Strip → List Row → List ℕ
row_numbers s [] = []
row_numbers s (row ∷ rows) = row_number s row ∷ row_numbers (row_took s row) rows
