-- What the tests answer: a law for each way out of the functions that only read.
use Rattle.std.specs.Prelude.{ℕ, ◌+◌, ◌-◌, ◌*◌, ◌≤◌, ◌<◌, ◌≡◌, Bool, true, false, List, length, take, drop}
use Rattle.std.proofs.Common.{sym, ◌∙◌, ap, true≢false, arith, length-drop, take_all, le-leb}
use Rattle.std.proofs.lemmas.Bool.{lt-leb}
use Rattle.search.specs.Cases.{false_of, same_test}
use Rattle.search.specs.Every.{All, all_more}
use Rattle.words.specs.Word.{word32}
use Rattle.words.specs.WordLaws.{Bytes}
use Rattle.words.specs.Run.{read}
use Rattle.outs.specs.Coding.{is_side}
use Rattle.outs.specs.Steps.{is_zero, is_name_at}
use Rattle.outs.specs.PieceLaws.{part_is}
use Rattle.outs.specs.SideLaws.{coded-seven}
use Rattle.outs.specs.SideTests.{tested_side, side_names, side_zeros}

-- ---- one name

pub name_at_zero : (side : List ℕ) (i : ℕ) {n : ℕ} {r : Bool} → n ≡ word32 side (4 + 68 * i) → 1 ≤ n → n ≤ 64 → r ≡ is_zero (take (72 + 68 * i - (8 + 68 * i + n)) (drop (8 + 68 * i + n) side)) → r ≡ is_name_at side i
unfolding is_name_at
name_at_zero side i {n} {r} e a b q =
    let k : read (8 + 68 * i + n) (64 - n) side ≡ take (72 + 68 * i - (8 + 68 * i + n)) (drop (8 + 68 * i + n) side) =
    sym (part_is (8 + 68 * i + n) (72 + 68 * i) (64 - n) side (omega arith)) in
    rw (← e, le-leb 1 n a, le-leb n 64 b, k) q

pub name_at_long : (side : List ℕ) (i : ℕ) {n : ℕ} → n ≡ word32 side (4 + 68 * i) → 1 ≤ n → 64 < n → false ≡ is_name_at side i
unfolding is_name_at
name_at_long side i {n} e a b = rw (← e, le-leb 1 n a, lt-leb n 64 b)

pub name_at_none : (side : List ℕ) (i : ℕ) {n : ℕ} → n ≡ word32 side (4 + 68 * i) → n < 1 → false ≡ is_name_at side i
unfolding is_name_at
name_at_none side i {n} e a = rw (← e, lt-leb 1 n a)

-- ---- a side

pub side_all : (side : List ℕ) {n i : ℕ} {r : Bool} → Bytes side → length side ≡ 480 → n ≡ word32 side 0 → n ≤ 7 → All (is_name_at side) i → n ≤ i → r ≡ is_zero (take (length side - (4 + 68 * n)) (drop (4 + 68 * n) side)) → r ≡ is_side side
side_all side {n} {i} {r} b l e h a k q = same_test r (is_side side) (λ t. there (sym (q ∙ part) ∙ t)) (λ t. q ∙ part ∙ back t)
  where
    part : is_zero (take (length side - (4 + 68 * n)) (drop (4 + 68 * n) side)) ≡ is_zero (drop (4 + 68 * word32 side 0) side)
    part = ap is_zero (take_all (length side - (4 + 68 * n)) (drop (4 + 68 * n) side) (rw length-drop (omega arith)) ∙ ap (λ (m : ℕ). drop (4 + 68 * m) side) e)

    there : is_zero (drop (4 + 68 * word32 side 0) side) ≡ true → is_side side ≡ true
    there z = tested_side side b l (omega arith) (λ u m. a.each u (omega arith)) z

    back : is_side side ≡ true → is_zero (drop (4 + 68 * word32 side 0) side) ≡ true
    back t = side_zeros side t

pub side_more : (side : List ℕ) {i : ℕ} {r : Bool} → All (is_name_at side) i → r ≡ is_name_at side i → r ≡ true → All (is_name_at side) (i + 1)
side_more side a q t = all_more a (sym q ∙ t)

pub side_stop : (side : List ℕ) {n i : ℕ} {r : Bool} → n ≡ word32 side 0 → i < n → r ≡ is_name_at side i → r ≡ false → false ≡ is_side side
side_stop side {n} {i} e h q f = false_of (is_side side) (λ t. true≢false (sym (side_names side t i (omega arith)) ∙ sym q ∙ f))

pub side_many : (side : List ℕ) {n : ℕ} → n ≡ word32 side 0 → 7 < n → false ≡ is_side side
side_many side {n} e h = false_of (is_side side) (λ t. omega (arith, coded-seven side t))
