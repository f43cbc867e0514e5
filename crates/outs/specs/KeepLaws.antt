-- What every strip keeps: at most seven out on a side, no name twice on a side.
use Rattle.std.specs.Prelude.{ℕ, ◌+◌, ◌≤◌, ◌≡◌, refl, Bool, true, false, cond, List, [], ◌∷◌, ◌++◌, length, drop, ltb}
use Rattle.std.proofs.Common.{arith, length-append, ltb-true}
use Rattle.search.specs.Table.{same}
use Rattle.outs.specs.Outs.{Side, one, two, What, out, revive, Strip, empty, out_on, among, refusal_on, changed}

-- no name stands twice
pub data Distinct : List (List ℕ) → Type 0 where
  nobody : Distinct []
  other : {n : List ℕ} {l : List (List ℕ)} → among n l ≡ false → Distinct l → Distinct (n ∷ l)

-- 02, K6: "up to seven"; "35 a name already out on that side"
pub record Kept (s : Strip) : Type 0 where
  pub most : (d : Side) → length (out_on s d) ≤ 7
  pub distinct : (d : Side) → Distinct (out_on s d)

pub empty-kept : Kept empty
empty-kept = record { most = λ d. most d; distinct = λ d. distinct d }
  where
    most : (d : Side) → length (out_on empty d) ≤ 7
    most one = omega arith
    most two = omega arith

    distinct : (d : Side) → Distinct (out_on empty d)
    distinct one = nobody
    distinct two = nobody

-- ---- one side

length_drop_one : (l : List (List ℕ)) → length (drop 1 l) ≤ length l
length_drop_one [] = omega arith
length_drop_one (x ∷ l) = omega arith

-- an out that is accepted: fewer than seven are out, and the name is not among them
pub out-seven : (l : List (List ℕ)) (name : List ℕ) → refusal_on l (out name) ≡ 0 → length l + 1 ≤ 7
out-seven l name z = go (ltb (length l) 7) refl z
  where
    go : (b : Bool) → ltb (length l) 7 ≡ b → ◌≡◌ {A = ℕ} (cond b (cond (among name l) 35 0) 33) 0 → length l + 1 ≤ 7
    go true q z = omega (arith, ltb-true (length l) 7 q)
    go false q z = absurd (omega arith)

pub changed-seven : (l : List (List ℕ)) (w : What) → length l ≤ 7 → refusal_on l w ≡ 0 → length (changed l w) ≤ 7
changed-seven l (out name) h z = omega (arith, length-append l (name ∷ []), out-seven l name z)
changed-seven l revive h z = omega (arith, length_drop_one l)

pub among-append : (n m : List ℕ) (l : List (List ℕ)) → among n l ≡ false → same n m ≡ false → among n (l ++ (m ∷ [])) ≡ false
unfolding among
among-append n m [] h k = rw k
among-append n m (x ∷ l) h k = go (same n x) (among-append n m l) h
  where
    go : (b : Bool) → (among n l ≡ false → same n m ≡ false → among n (l ++ (m ∷ [])) ≡ false) → cond b true (among n l) ≡ false → cond b true (among n (l ++ (m ∷ []))) ≡ false
    go true r h = h
    go false r h = r h k

-- ---- both sides, one event and many
