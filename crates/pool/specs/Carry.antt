-- Bytes copied from one place of the pool to another.
use Rattle.std.specs.Prelude.{ℕ, zero, suc, ◌+◌, List, get_or, set}

-- n bytes from `from` on, copied to `to` on, the lowest first. Where the two runs lie apart, as in every history, these are
-- the bytes that stood at `from` (carried-agrees), and no other byte changes (carried-framed)
unfoldable pub carried : List ℕ → ℕ → ℕ → ℕ → List ℕ
carried pool from to zero = pool
carried pool from to (suc i) = let p = carried pool from to i in set p (to + i) (get_or p (from + i) 0)
