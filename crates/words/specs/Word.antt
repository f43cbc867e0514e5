-- A little-endian word of four bytes in a list of bytes.
use Rattle.std.specs.Prelude.{ℕ, ◌+◌, ◌*◌, ◌/◌, ◌%◌, List, get_or, set}

-- the word of four bytes. 01: "little-endian u32 words", "read as unsigned"
unfoldable pub word_of : ℕ → ℕ → ℕ → ℕ → ℕ
word_of a b c d = a + b * 256 + c * 65536 + d * 16777216

-- the word that stands at `at`
unfoldable pub word32 : List ℕ → ℕ → ℕ
word32 s at = word_of (get_or s at 0) (get_or s (at + 1) 0) (get_or s (at + 2) 0) (get_or s (at + 3) 0)

-- the bytes with the word v at `at`: its lowest byte first, every other byte as it was
unfoldable pub with_word32 : List ℕ → ℕ → ℕ → List ℕ
with_word32 s at v =
    set (set (set (set s at (v % 256)) (at + 1) (v / 256 % 256)) (at + 2) (v / 65536 % 256)) (at + 3) (v / 16777216)
