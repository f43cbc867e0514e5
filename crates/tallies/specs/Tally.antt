-- The counts of each slot in the books. docs/LAYOUT.md: "slot s at 4 + 20 x N + 4 x (1 + C) x s: rows, then the list
-- length of each column"
use Rattle.std.specs.Prelude.{ℕ, ◌+◌, ◌*◌, List}
use Rattle.words.specs.Word.{word32, with_word32}
use Rattle.tallies.specs.declared.Tally.{Tally}

-- where a count stands
unfoldable pub tally_place : Tally → ℕ
tally_place t = 4 + 20 * t.numbers + 4 * ((1 + t.columns) * t.slot + t.word)

-- the count, and the books with another
unfoldable pub tally_of : List ℕ → Tally → ℕ
tally_of s t = word32 s (tally_place t)

unfoldable pub with_tally : List ℕ → Tally → ℕ → List ℕ
with_tally s t v = with_word32 s (tally_place t) v
