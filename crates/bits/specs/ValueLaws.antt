-- Several bits as one number: how a number is appended, and which number a run's bits in one byte or two make.
use Rattle.std.specs.Prelude.{ℕ, zero, suc, ◌+◌, ◌-◌, ◌*◌, ◌/◌, ◌%◌, ◌^◌, ◌≤◌, ◌<◌, ◌≡◌, refl, List, length, get_or, set}
use Rattle.std.proofs.Math.Path.{sym, ap, ap₂}
use Rattle.std.proofs.Common.{◌∙◌, arith, pow-suc, mul-le-mul_right, get_or-set_same, set-set}
use Rattle.std.proofs.Math.Nat.{mod-one, add_comm}
use Rattle.std.proofs.Math.Decide.{dec_lt}
use Rattle.std.proofs.Math.Pow.{mod-pow-add}
use Rattle.bits.specs.Bits.{bit_in, bit_at, bits_from, byte_with, with_bit, appended, value_of, across}
use Rattle.bits.specs.ByteLaws.{bit_mod, bit_shift, mod_of_mod, with-with}

-- ---- the number that bits make

pub value_lt : (b : ℕ → ℕ) → ((j : ℕ) → b j < 2) → (c : ℕ) → value_of b c < 2 ^ c
unfolding value_of
value_lt b small zero = omega arith
value_lt b small (suc c) =
    let l : value_of b c < 2 ^ c = value_lt b small c in
    let k : b c * 2 ^ c ≤ 1 * 2 ^ c = mul-le-mul_right (2 ^ c) (omega (arith, small c)) in
    omega (arith, pow-suc 2 c)

pub value_ext : (b b' : ℕ → ℕ) (c : ℕ) → ((j : ℕ) → j < c → b j ≡ b' j) → value_of b c ≡ value_of b' c
unfolding value_of
value_ext b b' zero h = refl
value_ext b b' (suc c) h = rw (value_ext b b' c (λ j l. h j (omega arith)), h c (omega arith))

-- the bits of one number
pub value_bits : (x s c : ℕ) → value_of (λ j. bit_in x (s + j)) c ≡ x / 2 ^ s % 2 ^ c
unfolding value_of
value_bits x s zero = sym (mod-one (x / 2 ^ s))
value_bits x s (suc c) =
    let q : 1 + c ≡ suc c = omega arith in
    let m : x / 2 ^ s % 2 ^ (1 + c) ≡ bit_in (x / 2 ^ s) c * 2 ^ c + x / 2 ^ s % 2 ^ c = unfold bit_in in mod-pow-add (x / 2 ^ s) 1 c in
    ap₂ (λ (u w : ℕ). u + w * 2 ^ c) (value_bits x s c) (sym (bit_shift x s c)) ∙ add_comm _ _ ∙ sym m ∙ ap (λ (n : ℕ). x / 2 ^ s % 2 ^ n) q

-- ---- a number appended

with_bit-with_bit : (s : List ℕ) (i v c w : ℕ) → v < 2 ^ c → i / 8 < length s → i % 8 + c < 8 → with_bit (with_bit s i v) (i + c) w ≡ with_bit s i (v + w * 2 ^ c)
unfolding with_bit
with_bit-with_bit s i v c w h l k =
    let q : (i + c) / 8 ≡ i / 8 = omega arith in
    let r : (i + c) % 8 ≡ i % 8 + c = omega arith in
    rw (q, r, get_or-set_same, set-set, with-with) refl

-- bits that lie in one byte are appended as one number
pub value_put : (d : List ℕ) (at : ℕ) (b : ℕ → ℕ) → ((j : ℕ) → b j < 2) → (c : ℕ) → 0 < c → at % 8 + c ≤ 8 → at / 8 < length d
    → with_bit d at (value_of b c) ≡ appended d at b c
unfolding appended value_of
value_put d at b small zero p r l = absurd (omega arith)
value_put d at b small (suc zero) p r l =
    let e : at + 0 ≡ at = omega arith in
    let f : 0 + b 0 * 1 ≡ b 0 = omega arith in
    rw (e, f)
value_put d at b small (suc (suc k)) p r l =
    sym (ap (λ (t : List ℕ). with_bit t (at + suc k) (b (suc k))) (sym (value_put d at b small (suc k) (omega arith) (omega arith) l))
    ∙ with_bit-with_bit d at (value_of b (suc k)) (suc k) (b (suc k)) (value_lt b small (suc k)) l (omega arith))

pub set-whole : (t : List ℕ) (k v : ℕ) → set t k v ≡ with_bit t (8 * k) v
unfolding with_bit byte_with
set-whole t k v =
    let q : 8 * k / 8 ≡ k = omega arith in
    let r : 8 * k % 8 ≡ 0 = omega arith in
    rw (q, r) (ap (set t k) (omega arith))

-- ---- the bits of a run, by its bytes

pub run-byte : (s : List ℕ) (q k j : ℕ) → k + j < 8 → bits_from s q k j ≡ bit_in (get_or s q 0) (k + j)
unfolding bits_from bit_at
run-byte s q k j h =
    let e : (8 * q + k + j) / 8 ≡ q = omega arith in
    let f : (8 * q + k + j) % 8 ≡ k + j = omega arith in
    rw (e, f)

run-next : (s : List ℕ) (q k j : ℕ) → 8 ≤ k + j → k + j < 16 → bits_from s q k j ≡ bit_in (get_or s (q + 1) 0) (k + j - 8)
unfolding bits_from bit_at
run-next s q k j l h =
    let e : (8 * q + k + j) / 8 ≡ q + 1 = omega arith in
    let f : (8 * q + k + j) % 8 ≡ k + j - 8 = omega arith in
    rw (e, f)

pair_low : (x z j : ℕ) → j < 8 → bit_in (x % 256 + 256 * z) j ≡ bit_in x j
pair_low x z j h = bit_mod (x % 256 + 256 * z) x 8 j h (omega arith)

pair_high : (x z j : ℕ) → 8 ≤ j → bit_in (x % 256 + 256 * z) j ≡ bit_in z (j - 8)
pair_high x z j h =
    let q : j ≡ 8 + (j - 8) = omega arith in
    let e : (x % 256 + 256 * z) / 256 ≡ z = omega arith in
    ap (bit_in (x % 256 + 256 * z)) q ∙ sym (bit_shift (x % 256 + 256 * z) 8 (j - 8)) ∙ ap (λ (n : ℕ). bit_in n (j - 8)) e

run-pair : (s : List ℕ) (q k j : ℕ) → k + j < 16 → bits_from s q k j ≡ bit_in (get_or s q 0 % 256 + 256 * get_or s (q + 1) 0) (k + j)
run-pair s q k j h = go (dec_lt (k + j) 8)
  where
    go : Dec (k + j < 8) → bits_from s q k j ≡ bit_in (get_or s q 0 % 256 + 256 * get_or s (q + 1) 0) (k + j)
    go (yes l) = run-byte s q k j l ∙ sym (pair_low (get_or s q 0) (get_or s (q + 1) 0) (k + j) l)
    go (no l) = run-next s q k j (omega arith) h ∙ sym (pair_high (get_or s q 0) (get_or s (q + 1) 0) (k + j) (omega arith))

-- bits that lie in one byte, and eight bits or fewer that lie in two
pub value_one : (s : List ℕ) (q k c : ℕ) → k + c ≤ 8 → get_or s q 0 / 2 ^ k % 2 ^ c ≡ value_of (bits_from s q k) c
value_one s q k c h =
    sym (value_ext (bits_from s q k) (λ j. bit_in (get_or s q 0) (k + j)) c (λ j l. run-byte s q k j (omega arith)) ∙ value_bits (get_or s q 0) k c)

pub value_two : (s : List ℕ) (q k c : ℕ) → k ≤ 8 → c ≤ 8 → across (get_or s q 0) (get_or s (q + 1) 0) k % 2 ^ c ≡ value_of (bits_from s q k) c
unfolding across
value_two s q k c l h =
    let x : ℕ = get_or s q 0 % 256 + 256 * get_or s (q + 1) 0 in
    mod_of_mod (x / 2 ^ k) 8 c h
    ∙ sym (value_ext (bits_from s q k) (λ j. bit_in x (k + j)) c (λ j i. run-pair s q k j (omega arith)) ∙ value_bits x k c)
