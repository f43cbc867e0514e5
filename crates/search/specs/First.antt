-- The lowest number that a test accepts.
use Rattle.std.specs.Prelude.{ℕ, zero, suc, ◌<◌, ◌≡◌, Bool, true, false, cond}
use Rattle.std.specs.Prelude.{Option, None, Some}

-- the lowest of the k numbers from i on that the test accepts, and none where there is none
unfoldable pub first_from : (ℕ → Bool) → ℕ → ℕ → Option ℕ
first_from p i zero = None
first_from p i (suc k) = let r = first_from p (suc i) k in cond (p i) (Some i) r

-- the lowest number below n that the test accepts, and none where there is none
abbrev pub first : (ℕ → Bool) → ℕ → Option ℕ
first p n = first_from p 0 n

-- what it means: t is below n and accepted, and nothing below t is
pub record Lowest (p : ℕ → Bool) (n t : ℕ) : Type 0 where
  pub below : t < n
  pub accepted : p t ≡ true
  pub others : (u : ℕ) → u < t → p u ≡ false

-- for a loop: the test accepts no number below i
pub record Passed (p : ℕ → Bool) (i : ℕ) : Type 0 where
  pub others : (u : ℕ) → u < i → p u ≡ false
