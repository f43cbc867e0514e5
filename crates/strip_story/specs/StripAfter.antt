-- The strip along batches, 02, K6: worked out batch by batch; which rows are accepted; the events that rows are; what a sheet shows of the front batch.
use Rattle.std.specs.Prelude.{ℕ, Bool, ◌&&◌, cond, eqb}
use mathlib.Core.List.{List, [], ◌∷◌, foldl}
use Rattle.std.specs.Prelude.{Option}
use Rattle.state.specs.World.{World}
use Rattle.state.specs.Layout.{rows_in}
use Rattle.state.specs.Rows.{Cell, Row, up_to, front_slot}
use Rattle.rules.specs.Calls.{read_row, read_as}
use Rattle.outs.specs.Outs.{Event, Strip, in_range, event_of}
use Rattle.match_rows.specs.MatchRow.{is_whole, number_in, side_in, event_in, player_in, row_number, row_took, after_rows}

-- 02, K6: "The strip after any batches": the rows of each batch behind those of the batch before it
unfoldable pub strip_after : Strip → List (List Row) → Strip
strip_after s batches = foldl after_rows s batches

-- the rows that are accepted: those whose number is 0
unfoldable pub accepted_rows : Strip → List Row → List Row
accepted_rows s [] = []
accepted_rows s (row ∷ rows) = let r = accepted_rows (row_took s row) rows in cond (eqb (row_number s row) 0) (row ∷ r) r

-- a row that is an event: 02, K6's 31, "null or out of range", said the other way round
unfoldable pub is_event : Row → Bool
is_event row = is_whole row && in_range (side_in row) (event_in row) (player_in row)

-- what happens in it
abbrev pub row_event : Row → Event
row_event row = event_of (number_in row) (side_in row) (event_in row) (player_in row)

-- the events of rows, in order
unfoldable pub events_of : List Row → List Event
events_of [] = []
events_of (row ∷ rows) = cond (is_event row) (row_event row ∷ events_of rows) (events_of rows)

-- what a sheet shows of the front batch: for each row and column what reading it answers, as 01 reads an answer; none where a read is refused
unfoldable pub sheet : World → List (List (Option Cell))
sheet w = up_to (rows_in w (front_slot w)) (λ i. up_to w.state.columns (λ c. read_as w (read_row w c i)))

-- the kinds of a match's columns, 02, K6: "row number (UInt64), side 1 or 2 (UInt8), event 1 out, 2 revive (UInt8), player name (Utf8View ..)"
abbrev pub match_kinds : List ℕ
match_kinds = 8 ∷ 5 ∷ 5 ∷ 18 ∷ []
