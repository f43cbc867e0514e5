-- Both sides of each edge of a row, computed over the definitions: nulls, the number's bytes, rows of another shape, a refused row among others.
use Rattle.std.specs.Prelude.{ℕ, Bool, true, ◌&&◌, List, [], ◌∷◌, T, replicate}
use Rattle.search.specs.Table.{same}
use Rattle.words.specs.Word.{word_of, word32}
use Rattle.state.specs.Rows.{Row, Cell, null, value}
use Rattle.outs.specs.Outs.{empty, among, refusal_for, accepted, took, is_name, in_range, side_of, what_of, given_number, given_took}
use Rattle.outs.specs.OutsWorked.{same_all}
use Rattle.match_rows.specs.MatchRow.{is_whole, cell_bytes, number_in, side_in, event_in, player_in, row_number, row_took, after_rows, row_numbers}

-- a number of 8 bytes whose lowest, fifth and last are given
abbrev number : ℕ → ℕ → ℕ → Cell
number a e h = value (a ∷ 0 ∷ 0 ∷ 0 ∷ e ∷ 0 ∷ 0 ∷ h ∷ [])

-- one byte: a side, an event, or a name of one letter
abbrev byte : ℕ → Cell
byte b = value (b ∷ [])

-- a player of one letter goes out on side 1
abbrev out : ℕ → ℕ → Row
out n k = number n 0 0 ∷ byte 1 ∷ byte 1 ∷ byte k ∷ []

-- a row of the table: rows from an empty strip, the number of each, and the names out on side 1 after them
pub record Case : Type 0 where
  pub rows : List Row
  pub numbers : List ℕ
  pub first : List (List ℕ)

-- a row of the table by its parts
abbrev case : List Row → List ℕ → List (List ℕ) → Case
case rs ns f = record { rows = rs; numbers = ns; first = f }

-- the numbers and the names are those that the row of the table says
unfoldable pub right : Case → Bool
right c = same (row_numbers empty c.rows) c.numbers && same_all (after_rows empty c.rows).first c.first

-- every row of the table is right
abbrev pub all : List Case → Bool
all [] = true
all (c ∷ cs) = right c && all cs

-- the edges
abbrev pub table : List Case
table =
    -- 31: number, side, event or name null, each alone; and none
    case ((null ∷ byte 1 ∷ byte 1 ∷ byte 65 ∷ []) ∷ []) (31 ∷ []) []
    ∷ case ((number 1 0 0 ∷ null ∷ byte 1 ∷ byte 65 ∷ []) ∷ []) (31 ∷ []) []
    ∷ case ((number 1 0 0 ∷ byte 1 ∷ null ∷ byte 65 ∷ []) ∷ []) (31 ∷ []) []
    ∷ case ((number 1 0 0 ∷ byte 1 ∷ byte 1 ∷ null ∷ []) ∷ []) (31 ∷ []) []
    ∷ case (out 1 65 ∷ []) (0 ∷ []) ((65 ∷ []) ∷ [])
    -- a revive whose name is null, empty, of 65 bytes, and one that nobody has
    ∷ case (out 1 65 ∷ (number 2 0 0 ∷ byte 1 ∷ byte 2 ∷ null ∷ []) ∷ []) (0 ∷ 31 ∷ []) ((65 ∷ []) ∷ [])
    ∷ case (out 1 65 ∷ (number 2 0 0 ∷ byte 1 ∷ byte 2 ∷ value [] ∷ []) ∷ []) (0 ∷ 31 ∷ []) ((65 ∷ []) ∷ [])
    ∷ case (out 1 65 ∷ (number 2 0 0 ∷ byte 1 ∷ byte 2 ∷ value (replicate 65 90) ∷ []) ∷ []) (0 ∷ 31 ∷ []) ((65 ∷ []) ∷ [])
    ∷ case (out 1 65 ∷ (number 2 0 0 ∷ byte 1 ∷ byte 2 ∷ byte 90 ∷ []) ∷ []) (0 ∷ 0 ∷ []) []
    -- side and event 0 and 3
    ∷ case ((number 1 0 0 ∷ byte 0 ∷ byte 1 ∷ byte 65 ∷ []) ∷ (number 1 0 0 ∷ byte 3 ∷ byte 1 ∷ byte 65 ∷ []) ∷ []) (31 ∷ 31 ∷ []) []
    ∷ case ((number 1 0 0 ∷ byte 1 ∷ byte 0 ∷ byte 65 ∷ []) ∷ (number 1 0 0 ∷ byte 1 ∷ byte 3 ∷ byte 65 ∷ []) ∷ []) (31 ∷ 31 ∷ []) []
    -- the lowest byte of a number is the first: 255 is below 4,294,967,296, and that below the largest last byte
    ∷ case (out 255 65 ∷ (number 0 1 0 ∷ byte 1 ∷ byte 1 ∷ byte 66 ∷ []) ∷ (number 0 0 255 ∷ byte 1 ∷ byte 1 ∷ byte 67 ∷ []) ∷ []) (0 ∷ 0 ∷ 0 ∷ []) ((65 ∷ []) ∷ (66 ∷ []) ∷ (67 ∷ []) ∷ [])
    ∷ case ((number 0 1 0 ∷ byte 1 ∷ byte 1 ∷ byte 66 ∷ []) ∷ out 255 65 ∷ []) (0 ∷ 32 ∷ []) ((66 ∷ []) ∷ [])
    -- three cells, and five
    ∷ case ((number 1 0 0 ∷ byte 1 ∷ byte 1 ∷ []) ∷ (number 1 0 0 ∷ byte 1 ∷ byte 1 ∷ byte 65 ∷ byte 65 ∷ []) ∷ []) (31 ∷ 31 ∷ []) []
    -- a refused row among others: those behind it are taken, and a null does not raise the last number
    ∷ case (out 1 65 ∷ out 1 66 ∷ (number 9 0 0 ∷ byte 1 ∷ byte 1 ∷ null ∷ []) ∷ out 2 67 ∷ []) (0 ∷ 32 ∷ 31 ∷ 0 ∷ []) ((65 ∷ []) ∷ (67 ∷ []) ∷ [])
    ∷ []

pub worked : T (all table)
unfolding right row_numbers after_rows row_number row_took is_whole cell_bytes number_in side_in event_in player_in word32 word_of refusal_for among accepted took is_name in_range side_of what_of given_number given_took
worked = tt
