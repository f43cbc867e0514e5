-- The strip in lent bytes, 972 of them: how a strip is coded, and which bytes code one.
use Rattle.std.specs.Prelude.{ℕ, zero, suc, ◌+◌, ◌-◌, ◌*◌, ◌/◌, ◌%◌, Bool, true, cond, ◌&&◌, List, [], ◌∷◌, ◌++◌, length, replicate, eqb, ltb, leb}
use Rattle.std.specs.Prelude.{Option, None, Some}
use Rattle.search.specs.Table.{same}
use Rattle.words.specs.Word.{word32}
use Rattle.words.specs.Run.{read}
use Rattle.outs.specs.Outs.{Strip, empty, is_name, given_number, given_took}

-- a side: a count, and seven names of 68 bytes: 4 + 7 x 68
abbrev pub side_bytes : ℕ
side_bytes = 480

-- a strip: three words of the last number, and two sides: 12 + 2 x 480
abbrev pub strip_bytes : ℕ
strip_bytes = 972

-- ---- a strip as bytes

-- n bytes of zero
abbrev pub zeros : ℕ → List ℕ
zeros n = replicate n 0

-- bytes, and zeros behind them: n in all
unfoldable pub padded : ℕ → List ℕ → List ℕ
padded n bs = bs ++ zeros (n - length bs)

-- a word, its lowest byte first
unfoldable pub word_bytes : ℕ → List ℕ
word_bytes v = v % 256 ∷ v / 256 % 256 ∷ v / 65536 % 256 ∷ v / 16777216 ∷ []

-- a name: how long it is, and its bytes, in 68
unfoldable pub name_code : List ℕ → List ℕ
name_code name = padded 68 (word_bytes (length name) ++ name)

-- names, one behind the other
unfoldable pub names_code : List (List ℕ) → List ℕ
names_code [] = []
names_code (name ∷ l) = name_code name ++ names_code l

-- a side: how many are out, and their names, the one out longest first, in 480
unfoldable pub side_code : List (List ℕ) → List ℕ
side_code l = padded side_bytes (word_bytes (length l) ++ names_code l)

-- the last accepted number: 1, and its low and its high word; zeros where no row was accepted
unfoldable pub last_code : Option ℕ → List ℕ
last_code None = zeros 12
last_code (Some n) = word_bytes 1 ++ (word_bytes (n % 4294967296) ++ word_bytes (n / 4294967296))

-- the last number, side 1, side 2
unfoldable pub code_of : Strip → List ℕ
code_of s = last_code s.last ++ (side_code s.first ++ side_code s.second)

-- ---- bytes as a strip

-- name i of a side
unfoldable pub name_in : List ℕ → ℕ → List ℕ
name_in side i = read (8 + 68 * i) (word32 side (4 + 68 * i)) side

-- the first n names
unfoldable pub first_names : List ℕ → ℕ → List (List ℕ)
first_names side zero = []
first_names side (suc i) = first_names side i ++ (name_in side i ∷ [])

-- as many as are out
unfoldable pub names_in : List ℕ → List (List ℕ)
names_in side = first_names side (word32 side 0)

-- the last accepted number
unfoldable pub last_in : List ℕ → Option ℕ
last_in b = cond (eqb (word32 b 0) 0) None (Some (word32 b 4 + word32 b 8 * 4294967296))

-- the strip that bytes hold, whatever they are
unfoldable pub strip_of : List ℕ → Strip
strip_of b =
    record { last = last_in b; first = names_in (read 12 side_bytes b); second = names_in (read 492 side_bytes b) }

-- ---- which bytes code a strip

-- 02, K6: "row number (UInt64)"
unfoldable pub last_fits : Option ℕ → Bool
last_fits None = true
last_fits (Some n) = ltb n 18446744073709551616

-- 02, K6: "player name (.., 1 to 64 bytes ..)"
unfoldable pub are_names : List (List ℕ) → Bool
are_names [] = true
are_names (name ∷ l) = is_name name && are_names l

-- 02, K6: "the out players, up to seven"
unfoldable pub side_fits : List (List ℕ) → Bool
side_fits l = leb (length l) 7 && are_names l

-- a strip that has a code
unfoldable pub fits : Strip → Bool
fits s = last_fits s.last && (side_fits s.first && side_fits s.second)

-- bytes that are the code of the side that they hold
unfoldable pub is_side : List ℕ → Bool
is_side side = side_fits (names_in side) && same side (side_code (names_in side))

-- bytes that are the code of the strip that they hold. So they are just the codes of strips: strip-code, code-is-strip
unfoldable pub is_strip : List ℕ → Bool
is_strip b = fits (strip_of b) && same b (code_of (strip_of b))

-- ---- what the calls answer and leave, for all bytes

-- 1 where there are other than 972 bytes, 14 where they code no strip
unfoldable pub strip_fault : List ℕ → ℕ
strip_fault b = cond (eqb (length b) strip_bytes) (cond (is_strip b) 0 14) 1

-- a new strip: 1 where there are other than 972 bytes
unfoldable pub new_fault : List ℕ → ℕ
new_fault b = cond (eqb (length b) strip_bytes) 0 1

-- the code of the empty strip, where there is room for it
unfoldable pub new_leaves : List ℕ → List ℕ
new_leaves b = cond (eqb (length b) strip_bytes) (code_of empty) b

-- an event: its number, where the bytes code a strip
unfoldable pub event_answer : List ℕ → ℕ → ℕ → ℕ → List ℕ → ℕ
event_answer b n d e name = cond (is_strip b) (given_number (strip_of b) n d e name) (strip_fault b)

-- and the code of the strip after it; bytes that code no strip stay as they are
unfoldable pub event_leaves : List ℕ → ℕ → ℕ → ℕ → List ℕ → List ℕ
event_leaves b n d e name = cond (is_strip b) (code_of (given_took (strip_of b) n d e name)) b
