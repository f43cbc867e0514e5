-- A test that holds of every number below n.
use Prim.Native.Nat.{ℕ, zero, suc, ◌+◌, ◌≤◌, ◌<◌}
use Rattle.std.specs.Prelude.{◌≡◌, Bool, true, false, ◌&&◌}
use Rattle.std.proofs.Math.Path.{refl}
use Rattle.std.proofs.Common.{sym, ◌∙◌, ap, true≢false, arith}
use Rattle.std.proofs.Math.Bool.{and-eq-true_iff}
use Rattle.std.proofs.Math.Decide.{dec_lt}
use Rattle.search.specs.Cases.{false_of}

-- every number below n is accepted
unfoldable pub every : (ℕ → Bool) → ℕ → Bool
every p zero = true
every p (suc i) = every p i && p i

module _ (p : ℕ → Bool) where
  -- the test says what it means, and means what it says
  pub every-says : (n : ℕ) → every p n ≡ true → (i : ℕ) → i < n → p i ≡ true
  unfolding every
  every-says zero e i h = absurd (omega arith)
  every-says (suc n) e i h = go (every-says n) (dec_lt i n)
    where
      both : (every p n ≡ true) × (p n ≡ true)
      both = (and-eq-true_iff _ _).0 e

      go : (every p n ≡ true → (i : ℕ) → i < n → p i ≡ true) → Dec (i < n) → p i ≡ true
      go r (yes d) = r both.0 i d
      go r (no d) = let q : i ≡ n = omega arith in rw q both.1

  pub every_is : (n : ℕ) → ((i : ℕ) → i < n → p i ≡ true) → every p n ≡ true
  unfolding every
  every_is zero h = refl
  every_is (suc n) h = rw (every_is n (λ i l. h i (omega arith)), h n (omega arith))

-- for a loop: the test holds of every number below i
pub record All (p : ℕ → Bool) (i : ℕ) : Type 0 where
  pub each : (u : ℕ) → u < i → p u ≡ true

pub all_none : (p : ℕ → Bool) → All p 0
all_none p = record { each = λ u h. absurd (omega arith) }

pub all_more : {p : ℕ → Bool} {i : ℕ} → All p i → p i ≡ true → All p (i + 1)
all_more {p} {i} a h = record { each = λ u l. go u l (dec_lt u i) }
  where
    go : (u : ℕ) → u < i + 1 → Dec (u < i) → p u ≡ true
    go u l (yes d) = a.each u d
    go u l (no d) = let q : u ≡ i = omega arith in rw q h

pub all_fails : (p : ℕ → Bool) (n i : ℕ) → i < n → p i ≡ false → false ≡ every p n
all_fails p n i l h = false_of _ (λ t. true≢false (sym (every-says p n t i l) ∙ h))

pub all_done : {p : ℕ → Bool} {i : ℕ} (n : ℕ) → All p i → n ≤ i → true ≡ every p n
all_done {p} {i} n a l = sym (every_is p n (λ u h. a.each u (omega arith)))
