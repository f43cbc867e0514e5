-- What crosses the C layer, as numbers and words: docs/HOST.md, "Functions".
use Rattle.std.specs.Prelude.{ℕ, zero, suc, ◌+◌, ◌*◌, ◌/◌, ◌%◌, ◌≡◌, cond, List, [], ◌∷◌, eqb, set, replicate}
use Rattle.words.specs.Word.{word32}
use Rattle.state.specs.declared.BatchCoalescer.{BatchCoalescer}
use Rattle.state.specs.declared.Place.{Place}
use Rattle.state.specs.declared.RowAnswer.{RowAnswer}
use Rattle.codes.specs.Code.{bytes_of, code_of}
use Rattle.std.specs.Prelude.{Option, Some, None, Result, Ok, Err}
use Rattle.counts.specs.declared.BufferNumber.{BufferNumber}
use Rattle.counts.specs.declared.RowCount.{RowCount}

-- two numbers as one: the first in the upper 32 bits, the second in the lower
abbrev pub pair : ℕ → ℕ → ℕ
pair n v = n * 4294967296 + v

-- the number of a registered buffer, and 0 beside a refusal
abbrev pub number_in : Result BufferNumber ℕ → ℕ
number_in (Ok k) = k.0
number_in (Err number) = 0

-- a limit: 1 and its rows, or 0
abbrev pub limit_pair : Option RowCount → ℕ
limit_pair (Some most) = pair 1 most.0
limit_pair None = 0

-- where a value is, in five words: 1 in its row: the start in the slots, low word and high, 0, length; 2 in a buffer: its number, 0, offset,
-- length
abbrev pub place_words : Place → List ℕ
place_words (Place.InRow start n) = 1 ∷ start % 4294967296 ∷ start / 4294967296 ∷ 0 ∷ n.0 ∷ []
place_words (Place.InBuffer k offset n) = 2 ∷ k.0 ∷ 0 ∷ offset ∷ n.0 ∷ []

-- what reading a row leaves in 20 bytes: five words, the first 0 for null; a refusal leaves them as they were
abbrev pub row_bytes : RowAnswer → List ℕ → List ℕ
row_bytes RowAnswer.Null out = bytes_of (0 ∷ 0 ∷ 0 ∷ 0 ∷ 0 ∷ [])
row_bytes (RowAnswer.Value p) out = bytes_of (place_words p)
row_bytes (RowAnswer.Refused number) out = out

-- the first c words of bytes, in an array of 16
unfoldable pub kinds_to : List ℕ → ℕ → List ℕ
kinds_to b zero = replicate 16 0
kinds_to b (suc c) = set (kinds_to b c) c (word32 b (4 * c))

-- n words of bytes, from `at` on
unfoldable pub words_from : List ℕ → ℕ → ℕ → List ℕ
words_from b at zero = []
words_from b at (suc n) = word32 b at ∷ words_from b (at + 4) n

-- ---- the state in bytes

-- the state is coded anew, and a refusal leaves its bytes
abbrev pub kept_as : ℕ → BatchCoalescer → List ℕ → List ℕ
kept_as n s b = cond (eqb n 0) (code_of s) b

-- what keeping a state leaves: the number handed on, and the bytes
pub record KeepsState (n : ℕ) (s : BatchCoalescer) (b b' : List ℕ) (r : ℕ) : Type 0 where
  pub answer_is : r ≡ n
  pub bytes_are : b' ≡ kept_as n s b
