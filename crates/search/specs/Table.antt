-- A table's rule, proved once: a test that is computed over the whole table, and the rule at each entry.
use Rattle.std.specs.Prelude.{ℕ, zero, suc, ◌+◌, ◌<◌, ◌≡◌, refl, Bool, true, false, ◌&&◌, List, [], ◌∷◌, T, eqb, length, get_or}
use Rattle.std.proofs.Common.{◌∙◌, subst, sym, add-zero, zero-add, add-suc, suc-add, le_of_suc-le-suc, not-suc-le-zero, eqb→eq}
use Rattle.search.specs.Cases.{and_left, and_right}

-- the test passes at each entry and its place, counted from i
abbrev pub tested {ℓ} : {A : Type ℓ} → (ℕ → A → Bool) → ℕ → List A → Bool
tested f i [] = true
tested f i (x ∷ xs) = f i x && tested f (suc i) xs

from {ℓ} : {A : Type ℓ} (f : ℕ → A → Bool) (xs : List A) (d : A) (i : ℕ) → T (tested f i xs) → (k : ℕ) → k < length xs → T (f (i + k) (get_or xs k d))
from f [] d i t k h = absurd (not-suc-le-zero h)
from f (x ∷ xs) d i t zero h = subst (λ (m : ℕ). T (f m x)) (sym (add-zero i)) (and_left (f i x) (tested f (suc i) xs) t)
from f (x ∷ xs) d i t (suc k) h =
    subst (λ (m : ℕ). T (f m (get_or xs k d))) (suc-add i k ∙ sym (add-suc i k))
    (from f xs d (suc i) (and_right (f i x) (tested f (suc i) xs) t) k (le_of_suc-le-suc h))

-- what the test says at each entry
pub at_entry {ℓ} : {A : Type ℓ} (f : ℕ → A → Bool) (xs : List A) (d : A) → T (tested f 0 xs) → (k : ℕ) → k < length xs → T (f k (get_or xs k d))
at_entry f xs d t k h = subst (λ (m : ℕ). T (f m (get_or xs k d))) (zero-add k) (from f xs d 0 t k h)

-- two lists of numbers, compared
abbrev pub same : List ℕ → List ℕ → Bool
same [] [] = true
same [] (y ∷ ys) = false
same (x ∷ xs) [] = false
same (x ∷ xs) (y ∷ ys) = eqb x y && same xs ys

pub same→eq : (xs ys : List ℕ) → T (same xs ys) → xs ≡ ys
same→eq [] [] t = refl
same→eq [] (y ∷ ys) t = absurd t
same→eq (x ∷ xs) [] t = absurd t
same→eq (x ∷ xs) (y ∷ ys) t =
    let p : x ≡ y = eqb→eq x y (and_left (eqb x y) (same xs ys) t) in
    let q : xs ≡ ys = same→eq xs ys (and_right (eqb x y) (same xs ys) t) in
    cc
