-- Both sides of each edge of 02's K6, computed over the definitions: one table, one test.
use Rattle.std.specs.Prelude.{ℕ, Bool, true, false, ◌&&◌, List, [], ◌∷◌, ◌++◌, T, replicate}
use Rattle.search.specs.Table.{same}
use Rattle.outs.specs.Outs.{
  Strip,
  empty,
  among,
  refusal_for,
  accepted,
  took,
  is_name,
  in_range,
  side_of,
  what_of,
  given_number,
  given_took,
}

-- a row's four values
pub record Given : Type 0 where
  pub number : ℕ
  pub side : ℕ
  pub event : ℕ
  pub name : List ℕ

-- four values as a row
abbrev row : ℕ → ℕ → ℕ → List ℕ → Given
row n d e name = record { number = n; side = d; event = e; name = name }

-- a player of one letter goes out on side 1
abbrev out1 : ℕ → ℕ → Given
out1 n k = row n 1 1 (k ∷ [])

-- or on side 2
abbrev out2 : ℕ → ℕ → Given
out2 n k = row n 2 1 (k ∷ [])

-- somebody comes back, whatever the name
abbrev back : ℕ → ℕ → Given
back n d = row n d 2 (90 ∷ [])

-- the number of each row
unfoldable pub answers_to : Strip → List Given → List ℕ
answers_to s [] = []
answers_to s (g ∷ gs) = given_number s g.number g.side g.event g.name ∷ answers_to (given_took s g.number g.side g.event g.name) gs

-- the strip after all rows
unfoldable pub strip_after : Strip → List Given → Strip
strip_after s [] = s
strip_after s (g ∷ gs) = strip_after (given_took s g.number g.side g.event g.name) gs

-- a row of the table: rows from an empty strip, the number of each, and the names out on each side after them
pub record Case : Type 0 where
  pub rows : List Given
  pub numbers : List ℕ
  pub first : List (List ℕ)
  pub second : List (List ℕ)

-- a row of the table by its parts
abbrev case : List Given → List ℕ → List (List ℕ) → List (List ℕ) → Case
case rs ns f g = record { rows = rs; numbers = ns; first = f; second = g }

-- the same names in the same order
abbrev pub same_all : List (List ℕ) → List (List ℕ) → Bool
same_all [] [] = true
same_all [] (y ∷ ys) = false
same_all (x ∷ xs) [] = false
same_all (x ∷ xs) (y ∷ ys) = same x y && same_all xs ys

-- the numbers and the names are those that the row says
unfoldable pub right : Case → Bool
right c =
    let s = strip_after empty c.rows in
    same (answers_to empty c.rows) c.numbers && (same_all s.first c.first && same_all s.second c.second)

-- every row is right
abbrev pub all : List Case → Bool
all [] = true
all (c ∷ cs) = right c && all cs

-- seven players go out on side 1
abbrev seven : List Given
seven = out1 1 65 ∷ out1 2 66 ∷ out1 3 67 ∷ out1 4 68 ∷ out1 5 69 ∷ out1 6 70 ∷ out1 7 71 ∷ []

-- a name of n letters A
abbrev long : ℕ → List ℕ
long n = replicate n 65

-- a name of 64 bytes that ends otherwise
abbrev ends : ℕ → List ℕ
ends k = long 63 ++ (k ∷ [])

-- the edges
abbrev pub table : List Case
table =
    -- E1: a name of 1 byte, of 64, of none, of 65
    case (row 1 1 1 (long 1) ∷ row 2 1 1 (long 64) ∷ row 3 1 1 [] ∷ row 4 1 1 (long 65) ∷ []) (0 ∷ 0 ∷ 31 ∷ 31 ∷ []) (long 1 ∷ long 64 ∷ []) []
    -- E2: side 0, 1, 2, 3
    ∷ case (row 1 0 1 (65 ∷ []) ∷ row 2 1 1 (65 ∷ []) ∷ row 3 2 1 (65 ∷ []) ∷ row 4 3 1 (65 ∷ []) ∷ []) (31 ∷ 0 ∷ 0 ∷ 31 ∷ []) ((65 ∷ []) ∷ []) ((65 ∷ []) ∷ [])
    -- E3: event 0, 1, 2, 3
    ∷ case (row 1 1 0 (65 ∷ []) ∷ row 2 1 1 (65 ∷ []) ∷ row 3 1 2 (66 ∷ []) ∷ row 4 1 3 (65 ∷ []) ∷ []) (31 ∷ 0 ∷ 0 ∷ 31 ∷ []) [] []
    -- E4: number 0 first, then not above, then above
    ∷ case (out1 0 65 ∷ out1 0 66 ∷ out1 1 66 ∷ []) (0 ∷ 32 ∷ 0 ∷ []) ((65 ∷ []) ∷ (66 ∷ []) ∷ []) []
    -- E5: the largest number, then any
    ∷ case (out1 18446744073709551615 65 ∷ out2 18446744073709551615 66 ∷ back 5 1 ∷ []) (0 ∷ 32 ∷ 32 ∷ []) ((65 ∷ []) ∷ []) []
    -- E6: a refused row keeps the last number
    ∷ case (out1 5 65 ∷ back 9 2 ∷ out1 6 66 ∷ []) (0 ∷ 34 ∷ 0 ∷ []) ((65 ∷ []) ∷ (66 ∷ []) ∷ []) []
    -- E7: seven, an eighth, an eighth whose name is out (33 before 35), a revive, the eighth again
    ∷ case (seven ++ (out1 8 72 ∷ out1 9 65 ∷ back 10 1 ∷ out1 11 72 ∷ []))
    (0 ∷ 0 ∷ 0 ∷ 0 ∷ 0 ∷ 0 ∷ 0 ∷ 33 ∷ 33 ∷ 0 ∷ 0 ∷ [])
    ((66 ∷ []) ∷ (67 ∷ []) ∷ (68 ∷ []) ∷ (69 ∷ []) ∷ (70 ∷ []) ∷ (71 ∷ []) ∷ (72 ∷ []) ∷ [])
    []
    -- E8: somebody is out on side 1, a revive on side 2
    ∷ case (out1 1 65 ∷ back 2 2 ∷ []) (0 ∷ 34 ∷ []) ((65 ∷ []) ∷ []) []
    -- E9: a name already out; out on the other side; again after its revive
    ∷ case (out1 1 65 ∷ out1 2 65 ∷ out2 3 65 ∷ back 4 1 ∷ out1 5 65 ∷ []) (0 ∷ 35 ∷ 0 ∷ 0 ∷ 0 ∷ []) ((65 ∷ []) ∷ []) ((65 ∷ []) ∷ [])
    -- E10: a name that begins another, either way round; two names of 64 bytes that differ in the last
    ∷ case (row 1 1 1 (65 ∷ 110 ∷ 110 ∷ []) ∷ row 2 1 1 (65 ∷ 110 ∷ 110 ∷ 97 ∷ []) ∷ row 3 1 1 (65 ∷ 110 ∷ []) ∷ []) (0 ∷ 0 ∷ 0 ∷ []) ((65 ∷ 110 ∷ 110 ∷ []) ∷ (65 ∷ 110 ∷ 110 ∷ 97 ∷ []) ∷ (65 ∷ 110 ∷ []) ∷ []) []
    ∷ case (row 1 1 1 (ends 66) ∷ row 2 1 1 (ends 67) ∷ row 3 1 1 (ends 66) ∷ []) (0 ∷ 0 ∷ 35 ∷ []) (ends 66 ∷ ends 67 ∷ []) []
    -- E11: a revive with no name, with 65 bytes, with a name nobody has
    ∷ case (out1 1 65 ∷ row 2 1 2 [] ∷ row 3 1 2 (long 65) ∷ row 4 1 2 (90 ∷ []) ∷ []) (0 ∷ 31 ∷ 31 ∷ 0 ∷ []) [] []
    -- E12: the one who has been out longest
    ∷ case (out1 1 65 ∷ out1 2 66 ∷ out1 3 67 ∷ back 4 1 ∷ []) (0 ∷ 0 ∷ 0 ∷ 0 ∷ []) ((66 ∷ []) ∷ (67 ∷ []) ∷ []) []
    ∷ case (out1 1 65 ∷ out1 2 66 ∷ out1 3 67 ∷ back 4 1 ∷ back 5 1 ∷ []) (0 ∷ 0 ∷ 0 ∷ 0 ∷ 0 ∷ []) ((67 ∷ []) ∷ []) []
    -- numbers that do not rise: the second reading of 9 and 6 takes the 9
    ∷ case (back 9 1 ∷ out1 6 65 ∷ back 9 1 ∷ out1 6 65 ∷ []) (34 ∷ 0 ∷ 0 ∷ 32 ∷ []) [] []
    ∷ []

pub worked : T (all table)
unfolding right answers_to strip_after refusal_for among accepted took is_name in_range side_of what_of given_number given_took
worked = tt
