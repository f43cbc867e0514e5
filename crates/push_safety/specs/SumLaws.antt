-- The bytes of long views: those of a part are at most ideal, and those of a walk at most the rest that it has.
use Prim.Native.Nat.{ℕ, zero, suc, ◌+◌, ◌-◌, ◌≤◌, ◌<◌}
use Rattle.std.specs.Prelude.{◌≡◌}
use Rattle.std.proofs.Math.Path.{refl}
use Rattle.std.proofs.Common.{◌∙◌, ap, ltb-false}
use Rattle.std.proofs.Math.Bool.{Bool}
use Rattle.std.specs.Prelude.{Option, None, Some}
use native.Mathlib.Omega.{arith}
use Rattle.std.proofs.Math.Dec.{ltb}
use Rattle.search.specs.Cases.{by_cond}
use Rattle.search.specs.First.{first}
use Rattle.search.specs.FirstLaws.{at-says, nothing-says}
use Rattle.views.specs.declared.View.{View}
use Rattle.views.specs.View.{is_inline, long_length}
use Rattle.state.specs.World.{World}
use Rattle.rules.specs.Batch.{Batch, row_view, sum_to, ideal}
use Rattle.rules.specs.Copies.{long_to}
use Rattle.rules.specs.Views.{long_before, or_all, walked}
use Rattle.rules.specs.SameLaws.{sum_same}

-- n numbers, and m behind them
pub sum_more : (f : ℕ → ℕ) (n m : ℕ) → sum_to (n + m) f ≡ sum_to n f + sum_to m (λ i. f (n + i))
unfolding sum_to
sum_more f n zero =
    let e : n + 0 ≡ n = omega arith in
    let q : sum_to (n + 0) f ≡ sum_to n f = ap (λ (k : ℕ). sum_to k f) e in
    omega arith
sum_more f n (suc m) =
    let e : n + suc m ≡ suc (n + m) = omega arith in
    let q : sum_to (n + suc m) f ≡ sum_to (n + m) f + f (n + m) = ap (λ (k : ℕ). sum_to k f) e in
    omega (arith, sum_more f n m)

module _ (w : World) (b : Batch) (c : ℕ) where
  before_is : (from n : ℕ) → long_before w b c from n ≡ sum_to n (λ i. long_length (row_view w b c (from + i)))
  unfolding long_before long_to
  before_is from n = refl

  ideal_is : ideal w b c ≡ sum_to b.rows (λ i. long_length (row_view w b c i))
  unfolding ideal
  ideal_is = refl

  -- a part, and the part behind it
  pub before_more : (from k m : ℕ) → long_before w b c from (k + m) ≡ long_before w b c from k + long_before w b c (from + k) m
  before_more from k m =
      before_is from (k + m)
      ∙ sum_more (λ i. long_length (row_view w b c (from + i))) k m
      ∙ (rw (before_is from k, before_is (from + k) m)
      (ap (λ (x : ℕ). sum_to k (λ i. long_length (row_view w b c (from + i))) + x)
      (sum_same m _ _ (λ i. ap (λ (j : ℕ). long_length (row_view w b c j)) (omega arith)))))

  -- a part of the rows
  pub part_ideal : (from n : ℕ) → from + n ≤ b.rows → long_before w b c from n ≤ ideal w b c
  part_ideal from n h =
      let e : from + n + (b.rows - (from + n)) ≡ b.rows = omega arith in
      let p = sum_more (λ i. long_length (row_view w b c i)) (from + n) (b.rows - (from + n)) in
      let q = sum_more (λ i. long_length (row_view w b c i)) from n in
      omega (arith, rw e at p, q, before_is from n, ideal_is)

  -- ---- the walk

  pub walked_most : (from n rest : ℕ) → walked w b c from n rest ≤ n
  unfolding walked
  walked_most from n rest = go (first (λ i. ltb (rest - long_before w b c from i) (row_view w b c (from + i)).length) n) refl
    where
      go : (o : Option ℕ) → first (λ i. ltb (rest - long_before w b c from i) (row_view w b c (from + i)).length) n ≡ o → or_all n o ≤ n
      go None e = omega arith
      go (Some i) e = omega (arith, (at-says (λ i. ltb (rest - long_before w b c from i) (row_view w b c (from + i)).length) n i e).below)

  -- each view that the walk takes fits what is left
  walked-fits : (from n rest k : ℕ) → k < walked w b c from n rest → (row_view w b c (from + k)).length ≤ rest - long_before w b c from k
  unfolding walked
  walked-fits from n rest k = go (first test n) refl
    where
      test : ℕ → Bool
      test i = ltb (rest - long_before w b c from i) (row_view w b c (from + i)).length

      go : (o : Option ℕ) → first test n ≡ o → k < or_all n o → (row_view w b c (from + k)).length ≤ rest - long_before w b c from k
      go None e h = ltb-false _ _ (nothing-says test n e k h)
      go (Some i) e h = ltb-false _ _ ((at-says test n i e).others k h)

  long_most : (v : View) → long_length v ≤ v.length
  unfolding long_length
  long_most v = by_cond (λ (x : ℕ). x ≤ v.length) (is_inline v) (λ h. omega arith) (λ h. omega arith)

  one_more_lem : (from k : ℕ) → long_before w b c from (suc k) ≡ long_before w b c from k + long_length (row_view w b c (from + k))
  unfolding long_before long_to sum_to
  one_more_lem from k = refl

  none_yet : (from : ℕ) → long_before w b c from 0 ≡ 0
  unfolding long_before long_to sum_to
  none_yet from = refl

  walked_part : (from n rest k : ℕ) → k ≤ walked w b c from n rest → long_before w b c from k ≤ rest
  walked_part from n rest zero h = omega (arith, none_yet from)
  walked_part from n rest (suc k) h =
      omega (
        arith,
        one_more_lem from k,
        walked_part from n rest k (omega arith),
        walked-fits from n rest k h,
        long_most (row_view w b c (from + k)),
      )

  pub walked-rest : (from n rest : ℕ) → long_before w b c from (walked w b c from n rest) ≤ rest
  walked-rest from n rest = walked_part from n rest (walked w b c from n rest) (omega arith)
