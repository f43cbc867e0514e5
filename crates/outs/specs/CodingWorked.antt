-- Both sides of each edge of the coding, computed: bytes written out, and a byte changed in them.
use Rattle.std.specs.Prelude.{ℕ, Bool, true, ◌&&◌, not, List, [], ◌∷◌, T, eqb, set, take, drop, replicate}
use Rattle.std.specs.Prelude.{Some}
use Rattle.search.specs.Table.{same}
use Rattle.words.specs.Word.{word_of, word32}
use Rattle.words.specs.Run.{read}
use Rattle.outs.specs.Outs.{Strip, empty, is_name}
use Rattle.outs.specs.Coding.{padded, word_bytes, name_code, names_code, side_code, last_code, code_of, name_in, first_names, names_in, last_in, strip_of, last_fits, are_names, side_fits, fits, is_strip, strip_fault}

-- number 4,294,967,298; on side 1 AB and a name of 64 bytes, on side 2 C
abbrev sample : Strip
sample = record { last = Some 4294967298; first = (65 ∷ 66 ∷ []) ∷ replicate 64 90 ∷ []; second = (67 ∷ []) ∷ [] }

-- as many as there may be, and as long
abbrev fullest : Strip
fullest = record { last = Some 18446744073709551615; first = replicate 7 (replicate 64 255); second = replicate 7 (replicate 64 255) }

-- its bytes, with another at one place
unfoldable pub with : ℕ → ℕ → List ℕ
with at v = set (code_of sample) at v

-- every test holds
abbrev pub all : List Bool → Bool
all [] = true
all (b ∷ bs) = b && all bs

-- the tests
abbrev pub table : List Bool
table =
    -- the bytes: 1, the low word 2, the high word 1; two out: 2 and AB; a name of 64 bytes; one out on side 2: 1 and C
    same (take 24 (code_of sample)) (1 ∷ 0 ∷ 0 ∷ 0 ∷ 2 ∷ 0 ∷ 0 ∷ 0 ∷ 1 ∷ 0 ∷ 0 ∷ 0 ∷ 2 ∷ 0 ∷ 0 ∷ 0 ∷ 2 ∷ 0 ∷ 0 ∷ 0 ∷ 65 ∷ 66 ∷ 0 ∷ 0 ∷ [])
    ∷ same (take 6 (drop 84 (code_of sample))) (64 ∷ 0 ∷ 0 ∷ 0 ∷ 90 ∷ 90 ∷ [])
    ∷ same (take 10 (drop 492 (code_of sample))) (1 ∷ 0 ∷ 0 ∷ 0 ∷ 1 ∷ 0 ∷ 0 ∷ 0 ∷ 67 ∷ 0 ∷ [])
    -- strips are read back
    ∷ is_strip (code_of sample)
    ∷ is_strip (code_of fullest)
    ∷ same (code_of empty) (replicate 972 0)
    ∷ is_strip (replicate 972 0)
    -- a flag of 2; of 0 beside a number
    ∷ not (is_strip (with 0 2))
    ∷ not (is_strip (with 0 0))
    -- a count of 1, 3 and 8 where two are out
    ∷ not (is_strip (with 12 1))
    ∷ not (is_strip (with 12 3))
    ∷ not (is_strip (with 12 8))
    -- a name of no byte; of one byte where two stand; of three, which is another name; of 65
    ∷ not (is_strip (with 16 0))
    ∷ not (is_strip (with 16 1))
    ∷ is_strip (with 16 3)
    ∷ not (is_strip (with 84 65))
    -- another letter is another name; a byte behind a name, behind the names, at the end
    ∷ is_strip (with 20 67)
    ∷ not (is_strip (with 22 1))
    ∷ not (is_strip (with 491 1))
    ∷ not (is_strip (with 971 1))
    -- 971 and 973 bytes; 972 that code a strip, and that do not
    ∷ eqb (strip_fault (replicate 971 0)) 1
    ∷ eqb (strip_fault (replicate 973 0)) 1
    ∷ eqb (strip_fault (code_of sample)) 0
    ∷ eqb (strip_fault (with 0 2)) 14
    ∷ []

pub coding_worked : T (all table)
unfolding with padded word_bytes name_code names_code side_code last_code code_of name_in first_names names_in last_in strip_of last_fits are_names side_fits fits is_name is_strip strip_fault word_of word32 read
coding_worked = tt
