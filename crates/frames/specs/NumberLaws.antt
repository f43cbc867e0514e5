-- Numbers in decimal: the digits that the kit makes are those of the definition.
use Rattle.std.specs.Prelude.{ℕ, zero, suc, ◌+◌, ◌-◌, ◌*◌, ◌/◌, ◌%◌, ◌^◌, ◌≤◌, ◌<◌, ◌≡◌, List, [], ◌∷◌, ◌++◌, length, take, ltb}
use Rattle.std.proofs.Common.{◌∙◌, ap, arith, pow-suc, mod-lt, mod-eq_of_lt, length-append, lt-ltb, le-ltb}
use Rattle.std.proofs.Math.Decide.{dec_lt}
use Rattle.std.proofs.Math.Nat.{one-le-pow, pow-le-pow_right}
use Rattle.io.specs.Digits.{hex_digit_ascii, last_digits, IsDigitCount}
use Rattle.words.specs.Run.{read, put}
use Rattle.search.specs.Cases.{by_cond}
use Rattle.frames.specs.Text.{decimal_in, decimal}
use Rattle.frames.specs.Laid.{Laid}

-- no more digits than there is room for
length_in : (k n : ℕ) → length (decimal_in k n) ≤ k
unfolding decimal_in
length_in zero n = omega arith
length_in (suc k) n =
    by_cond (λ (l : List ℕ). length l ≤ suc k) (ltb n 10) (λ q. omega arith)
    (λ q. omega (arith, length-append (decimal_in k (n / 10)) ((48 + n % 10) ∷ []), length_in k (n / 10)))

-- no number has more than 20
pub length-decimal : (n : ℕ) → length (decimal n) ≤ 20
unfolding decimal
length-decimal n = length_in 20 n

-- the last digit
last_digit : (n : ℕ) → hex_digit_ascii (n % 10) ≡ 48 + n % 10
last_digit n = rw (lt-ltb (n % 10) 10 (mod-lt n {m = 10} (omega arith)))

-- the fewest digits of a number, where there is room for them
fewest_in : (k f n : ℕ) → 1 ≤ k → n < 10 ^ k → (1 < k → 10 ^ (k - 1) ≤ n) → k ≤ f → last_digits 10 k n ≡ decimal_in f n
unfolding decimal_in
fewest_in zero f n a b c d = absurd (omega arith)
fewest_in (suc k) zero n a b c d = absurd (omega arith)
fewest_in (suc zero) (suc f) n a b c d =
    let s : n < 10 = omega (arith, pow-suc 10 0, b) in
    let m : n % 10 ≡ n = mod-eq_of_lt s in
    ap (λ (x : ℕ). x ∷ []) (last_digit n ∙ ap (λ (x : ℕ). 48 + x) m) ∙ rw (lt-ltb n 10 s)
fewest_in (suc (suc k)) (suc f) n a b c d =
    let x : suc (suc k) - 1 ≡ suc k = omega arith in
    let y : suc k - 1 ≡ k = omega arith in
    let low : 10 ^ suc k ≤ n = rw x at (c (omega arith)) in
    let p : 10 ^ suc k ≡ 10 ^ k * 10 = pow-suc 10 k in
    let q : 10 ^ suc (suc k) ≡ 10 ^ suc k * 10 = pow-suc 10 (suc k) in
    let one : 1 ≤ 10 ^ k = one-le-pow k 10 (omega arith) in
    let r : last_digits 10 (suc k) (n / 10) ≡ decimal_in f (n / 10) = fewest_in (suc k) f (n / 10) (omega arith) (omega arith) (λ h. rw y (omega arith)) (omega arith) in
    ap (λ (l : List ℕ). l ++ (hex_digit_ascii (n % 10) ∷ [])) r ∙ ap (λ (x : ℕ). decimal_in f (n / 10) ++ (x ∷ [])) (last_digit n) ∙ rw (le-ltb n 10 (omega arith))

-- the digits that are made are those of the definition
pub decimal_is : (n k : ℕ) → IsDigitCount 10 1 n k → k ≤ 20 → last_digits 10 k n ≡ decimal n
unfolding decimal
decimal_is n k f h = fewest_in k 20 n f.0 f.1 f.2 h

-- 20 digits hold every number of 64 bits
pub fewest_small : (n k : ℕ) → n < 18446744073709551616 → IsDigitCount 10 1 n k → k ≤ 20
fewest_small n k h f = go (dec_lt 20 k)
  where
    few : 20 < k → ⊥
    few q =
        let g : 20 ≤ k - 1 = omega arith in
        let p : 10 ^ 20 ≤ 10 ^ (k - 1) = pow-le-pow_right {n = 10} (omega arith) g in
        let r : 10 ^ (k - 1) ≤ n = f.2 (omega arith) in
        omega arith

    go : Dec (20 < k) → k ≤ 20
    go (yes q) = absurd (few q)
    go (no q) = omega arith

-- a number laid: k digits of d, which the kit made
pub number-laid : (at n k : ℕ) (d s : List ℕ) {t : List ℕ} → n < 18446744073709551616 → k ≡ length (take k d) → IsDigitCount 10 1 n k → take k d ≡ last_digits 10 k n → t ≡ put at (read 0 k d) s → Laid 20 at (decimal n) s t (at + k)
unfolding read
number-laid at n k d s l m f e q =
    let x : take k d ≡ decimal n = e ∙ decimal_is n k f (fewest_small n k l f) in
    record {
      bytes = q ∙ ap (λ (z : List ℕ). put at z s) x;
      place = ap (λ (z : ℕ). at + z) (m ∙ ap length x);
      room = length-decimal n;
    }
