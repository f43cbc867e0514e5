-- What the functions inside promise. Nobody above has to believe these: the laws tie each to the coding.
use Rattle.std.specs.Prelude.{ℕ, ◌+◌, ◌-◌, ◌*◌, Bool, cond, ◌&&◌, List, eqb, leb, length, get_or}
use Rattle.search.specs.Every.{every}
use Rattle.words.specs.Word.{word32}
use Rattle.words.specs.Run.{read}

-- byte i is zero
unfoldable pub zero_at : List ℕ → ℕ → Bool
zero_at l i = eqb (get_or l i 0) 0

-- every byte is zero
unfoldable pub is_zero : List ℕ → Bool
is_zero l = every (zero_at l) (length l)

-- the test of name i: 1 to 64 bytes, and zeros behind them
unfoldable pub is_name_at : List ℕ → ℕ → Bool
is_name_at side i =
    (leb 1 (word32 side (4 + 68 * i)) && leb (word32 side (4 + 68 * i)) 64)
    && is_zero (read (8 + 68 * i + word32 side (4 + 68 * i)) (64 - word32 side (4 + 68 * i)) side)

-- the test of the last number: no row accepted and zeros, or 1
unfoldable pub is_last : List ℕ → Bool
is_last b = cond (eqb (word32 b 0) 0) (is_zero (read 4 8 b)) (eqb (word32 b 0) 1)
