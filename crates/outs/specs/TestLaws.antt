-- Tests of bytes one by one, as the code makes them: every byte is zero, two names are the same.
use Rattle.std.specs.Prelude.{ℕ, ◌<◌, ◌≡◌, refl, Bool, true, false, ◌&&◌, List, [], ◌∷◌, eqb, length, get_or, MatchBool}
use Rattle.std.proofs.Common.{sym, ◌∙◌, ap, arith, ext_get_or, Fits, eqb-true, eq-eqb, ne_eqb}
use Rattle.std.proofs.lemmas.List.{length-replicate, get_or-replicate}
use Rattle.std.specs.Int.{w8}
use Rattle.std.specs.List.{AllWithin, HoldsAt}
use lib.Pointwise.{pointwise}
use Rattle.search.specs.Every.{every-says, every_is, all_fails}
use Rattle.search.specs.Table.{same}
use Rattle.words.specs.WordLaws.{Bytes}
use Rattle.outs.specs.Coding.{zeros}
use Rattle.outs.specs.Steps.{zero_at, is_zero}

-- what is known of a slice of bytes
pub bytes-known : {s : List ℕ} → ((k : ℕ) → Fits w8 (get_or s k 0)) → Bytes s
bytes-known h = record { byte = λ k. (h k).fits }

-- ---- every byte is zero

pub zero_is : (l : List ℕ) (n : ℕ) → l ≡ zeros n → is_zero l ≡ true
unfolding is_zero zero_at
zero_is l n e =
    every_is (zero_at l) (length l) (λ i h. eq-eqb (get_or l i 0) 0 (ap (λ (m : List ℕ). get_or m i 0) e ∙ get_or-replicate n i 0 0 (omega (arith, ap length e, length-replicate {A = ℕ} n 0))))

pub zero_says : (l : List ℕ) → is_zero l ≡ true → l ≡ zeros (length l)
unfolding is_zero zero_at
zero_says l h =
    ext_get_or 0 l (zeros (length l)) (sym (length-replicate (length l) 0)) (λ i k. eqb-true (get_or l i 0) 0 (every-says (zero_at l) (length l) h i k) ∙ sym (get_or-replicate (length l) i 0 0 k))

-- what the test of every byte answers
pub zero_answer : (l : List ℕ) {r : Bool} → MatchBool r (AllWithin (λ (x : ℕ). x ≡ 0) l 0 (length l)) ((k : ℕ) × (k < length l) × HoldsAt (λ (x : ℕ). x ≡ 0 → ⊥) l k) → r ≡ is_zero l
unfolding is_zero zero_at
zero_answer l {r = true} h = sym (every_is (zero_at l) (length l) (λ i k. eq-eqb (get_or l i 0) 0 (h i 0 (omega arith) k)))
zero_answer l {r = false} (k, m, e) = all_fails (zero_at l) (length l) k m (ne_eqb (get_or l k 0) 0 (e 0))

-- ---- the bytes of two names

-- what `==` answers
pub same_answer : (a b : List ℕ) {r : Bool} → r ≡ pointwise eqb a b → r ≡ same a b
same_answer a b q = q ∙ go a b
  where
    go : (a b : List ℕ) → pointwise eqb a b ≡ same a b
    go [] [] = refl
    go [] (y ∷ b) = refl
    go (x ∷ a) [] = refl
    go (x ∷ a) (y ∷ b) = ap (λ (t : Bool). eqb x y && t) (go a b)
