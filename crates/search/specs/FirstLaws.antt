-- The laws of the lowest number: what is answered is the lowest, and the lowest is what is answered.
use Prim.Native.Nat.{ℕ, zero, suc, ◌+◌, ◌-◌, ◌≤◌, ◌<◌}
use Rattle.std.proofs.Math.Path.{◌≡◌, refl}
use Rattle.std.proofs.Common.{sym, ◌∙◌, ap}
use Rattle.std.specs.Prelude.{Bool}
use Rattle.std.proofs.Math.Bool.{true, false}
use Rattle.std.specs.Prelude.{Option, None, Some}
use native.Mathlib.Omega.{arith}
use Rattle.std.proofs.Math.Decide.{dec_lt}
use Rattle.search.specs.First.{first_from, first, Lowest, Passed}

module _ (p : ℕ → Bool) where
  -- one number looked at
  pub first_yes : (i k : ℕ) → p i ≡ true → first_from p i (suc k) ≡ Some i
  unfolding first_from
  first_yes i k h = rw h

  pub first_no : (i k : ℕ) → p i ≡ false → first_from p i (suc k) ≡ first_from p (suc i) k
  unfolding first_from
  first_no i k h = rw h

  from_at : (k i t : ℕ) → i ≤ t → t < i + k → p t ≡ true → ((u : ℕ) → u < t → p u ≡ false) → first_from p i k ≡ Some t
  from_at zero i t l h y o = absurd (omega arith)
  from_at (suc k) i t l h y o = go (λ a b. from_at k (suc i) t a b y o) (dec_lt i t)
    where
      go : (suc i ≤ t → t < suc i + k → first_from p (suc i) k ≡ Some t) → Dec (i < t) → first_from p i (suc k) ≡ Some t
      go r (yes d) = first_no i k (o i d) ∙ r (omega arith) (omega arith)
      go r (no d) = let e : t ≡ i = omega arith in rw e (first_yes i k (rw e at y))

  from-none : (k i : ℕ) → ((u : ℕ) → i ≤ u → u < i + k → p u ≡ false) → first_from p i k ≡ None
  unfolding first_from
  from-none zero i o = refl
  from-none (suc k) i o =
      first_no i k (o i (omega arith) (omega arith)) ∙ from-none k (suc i) (λ u a b. o u (omega arith) (omega arith))

  below_more' : (i : ℕ) → ((u : ℕ) → u < i → p u ≡ false) → p i ≡ false → (u : ℕ) → u < suc i → p u ≡ false
  below_more' i o h u l = go (dec_lt u i)
    where
      go : Dec (u < i) → p u ≡ false
      go (yes d) = o u d
      go (no d) = let e : u ≡ i = omega arith in rw e h

  from-says : (k i t : ℕ) → first_from p i k ≡ Some t → ((u : ℕ) → u < i → p u ≡ false) → Lowest p (i + k) t
  unfolding first_from
  from-says zero i t e o = let z : ◌≡◌ {A = ℕ} 0 1 = cc in absurd (omega arith)
  from-says (suc k) i t e o = go (from-says k (suc i) t) (p i) refl
    where
      go : (first_from p (suc i) k ≡ Some t → ((u : ℕ) → u < suc i → p u ≡ false) → Lowest p (suc i + k) t) → (b : Bool) → p i ≡ b → Lowest p (i + suc k) t
      go r true h =
          let e' : i ≡ t = cc (first_yes i k h) in
          record { below = omega arith; accepted = rw e' at h; others = rw e' at o }
      go r false h =
          let l : Lowest p (suc i + k) t = r (sym (first_no i k h) ∙ e) (below_more' i o h) in
          record { below = omega arith; accepted = l.accepted; others = l.others }

  from_nothing : (k i : ℕ) → first_from p i k ≡ None → (u : ℕ) → i ≤ u → u < i + k → p u ≡ false
  unfolding first_from
  from_nothing zero i e u a b = absurd (omega arith)
  from_nothing (suc k) i e u a b = go (from_nothing k (suc i)) (p i) refl (dec_lt i u)
    where
      go : (first_from p (suc i) k ≡ None → (u : ℕ) → suc i ≤ u → u < suc i + k → p u ≡ false) → (x : Bool) → p i ≡ x → Dec (i < u) → p u ≡ false
      go r true h d = let z : ◌≡◌ {A = ℕ} 0 1 = cc (first_yes i k h) in absurd (omega arith)
      go r false h (yes d) = r (sym (first_no i k h) ∙ e) u (omega arith) (omega arith)
      go r false h (no d) = let q : u ≡ i = omega arith in rw q h

  -- the lowest is what is answered, and nothing else is
  pub at_is : (n t : ℕ) → Lowest p n t → first p n ≡ Some t
  at_is n t l = from_at n 0 t (omega arith) (omega (arith, l.below)) l.accepted l.others

  pub nothing_is : (n : ℕ) → ((u : ℕ) → u < n → p u ≡ false) → first p n ≡ None
  nothing_is n o = from-none n 0 (λ u a b. o u (omega arith))

  pub at-says : (n t : ℕ) → first p n ≡ Some t → Lowest p n t
  at-says n t e =
      let l : Lowest p (0 + n) t = from-says n 0 t e (λ u h. absurd (omega arith)) in
      record { below = omega arith; accepted = l.accepted; others = l.others }

  pub nothing-says : (n : ℕ) → first p n ≡ None → (u : ℕ) → u < n → p u ≡ false
  nothing-says n e u h = from_nothing n 0 e u (omega arith) (omega arith)

pub passed_none : (p : ℕ → Bool) → Passed p 0
passed_none p = record { others = λ u h. absurd (omega arith) }

pub passed_more : {p : ℕ → Bool} {i : ℕ} → Passed p i → p i ≡ false → Passed p (i + 1)
passed_more {p} {i} o h = record { others = λ u l. below_more' p i o.others h u (omega arith) }

pub passed_at : {p : ℕ → Bool} {i : ℕ} (n : ℕ) → Passed p i → i < n → p i ≡ true → Some i ≡ first p n
passed_at {p} {i} n o l h = sym (at_is p n i (record { below = l; accepted = h; others = o.others }))

pub passed_all : {p : ℕ → Bool} {i : ℕ} (n : ℕ) → Passed p i → n ≤ i → None ≡ first p n
passed_all {p} {i} n o l = sym (nothing_is p n (λ u h. o.others u (omega arith)))
