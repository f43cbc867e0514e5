-- The two ways of a condition.
use Rattle.std.specs.Prelude.{◌≡◌, refl, Bool, true, false, cond, ◌&&◌, T}
use Rattle.std.proofs.Common.{sym}

-- two goals for one test, each with the test's value
pub by_cond {ℓ} : {B : Type ℓ} (P : B → Type 0) (b : Bool) {x y : B} → (b ≡ true → P x) → (b ≡ false → P y) → P (cond b x y)
by_cond P true f g = f refl
by_cond P false f g = g refl

-- what no proof of true can be is false
pub false_of : (b : Bool) → (b ≡ true → ⊥) → false ≡ b
false_of true h = absurd (h refl)
false_of false h = refl

-- the halves of a computed test
pub and_left : (a b : Bool) → T (a && b) → T a
and_left true b t = tt
and_left false b t = t

pub and_right : (a b : Bool) → T (a && b) → T b
and_right true b t = t
and_right false b t = absurd t

-- two tests that pass together are one
pub same_test : (a b : Bool) → (a ≡ true → b ≡ true) → (b ≡ true → a ≡ true) → a ≡ b
same_test true b f g = sym (f refl)
same_test false true f g = g refl
same_test false false f g = refl

-- both halves, and the first that fails
pub both : {a b : Bool} → a ≡ true → b ≡ true → (a && b) ≡ true
both p q = rw (p, q)

pub both_fails : {a : Bool} (b : Bool) → a ≡ false → false ≡ (a && b)
both_fails b p = rw p

pub both_rest : {a : Bool} (b : Bool) → a ≡ true → b ≡ (a && b)
both_rest b p = rw p
