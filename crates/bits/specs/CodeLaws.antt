-- What the code learns at each of its exits: the machine's shifts and masks, bits read, and bits put inside one byte.
use Rattle.std.specs.Prelude.{ℕ, zero, suc, ◌+◌, ◌-◌, ◌*◌, ◌/◌, ◌%◌, ◌^◌, ◌≤◌, ◌<◌, ◌≡◌, refl, List, length, get_or, set}
use Rattle.std.proofs.Common.{sym, ◌∙◌, ap, ap₂, subst, arith, mod-lt, pow-suc, lt_of_lt_of_le, mod-eq_of_lt, add-zero, add_comm, mul_comm, mul_assoc, one-mul, pow_pos, pow_mono, pow-add, shl_lt, shr_lt, shl_exact}
use Rattle.std.proofs.Math.Nat.{mul-mod_left, add-mul-div_left}
use Rattle.std.specs.Int.Bits.{bit_and, bit_or, or_shifted_r}
use Rattle.std.proofs.lemmas.Nat.{and_mask, shl-shr, mod-pow-add}
use Rattle.std.proofs.Math.Pow.{ones_split, ones_lt, high, low}
use Rattle.bits.specs.Bits.{bit_in, bit_at, bits_from, ones, byte_with, with_bit, appended, value_of, across}
use Rattle.bits.specs.BitLaws.{bits_from_small, ones_small, run-start}
use Rattle.bits.specs.ValueLaws.{value_lt, value_ext, value_put, value_one, value_two}

-- ---- shifts and masks

pub bit_by_mask : (x k : ℕ) → bit_and (x / 2 ^ k) 1 ≡ bit_in x k
unfolding bit_in
bit_by_mask x k = and_mask (x / 2 ^ k) 1

shifted_one : (c : ℕ) → c < 8 → 1 * 2 ^ c % 256 ≡ 2 ^ c
shifted_one c h = shl_exact 1 c 8 (omega arith) (omega arith) ∙ one-mul (2 ^ c)

pub one_shifted : (c : ℕ) → c < 8 → 1 ≤ 1 * 2 ^ c % 256
one_shifted c h = omega (arith, shifted_one c h, pow_pos c)

pub low_by_mask : (x c : ℕ) → c < 8 → bit_and x (1 * 2 ^ c % 256 - 1) ≡ x % 2 ^ c
low_by_mask x c h = rw (shifted_one c h) (and_mask x c)

pub byte-made : (x k v : ℕ) {r : ℕ} → r ≡ x % 2 ^ k → v * 2 ^ k < 256 → bit_or r (v * 2 ^ k % 256) ≡ byte_with x k v
unfolding byte_with
byte-made x k v e h =
    rw (e, mod-eq_of_lt h) (or_shifted_r v k (x % 2 ^ k) (mod-lt x (pow_pos k)) ∙ add_comm (v * 2 ^ k) (x % 2 ^ k))

-- the upper t bits of a number of s + t bits, and above them the lowest of z
split_or : (x z s t : ℕ) → x < 2 ^ (s + t) → bit_or (x / 2 ^ s) (z * 2 ^ t % 2 ^ (s + t)) ≡ (x + 2 ^ (s + t) * z) / 2 ^ s % 2 ^ (s + t)
split_or x z s t h =
    let b : x / 2 ^ s < 2 ^ t = shr_lt t s (subst (λ (n : ℕ). x < 2 ^ n) (add_comm s t) h) in
    let a : z * 2 ^ t % 2 ^ (s + t) ≡ z % 2 ^ s * 2 ^ t = mod-pow-add (z * 2 ^ t) s t ∙ rw (shl-shr z t, mul-mod_left z (2 ^ t)) (add-zero _) in
    let e : 2 ^ (s + t) * z ≡ 2 ^ s * (2 ^ t * z) = ap (λ (m : ℕ). m * z) (pow-add 2 s t) ∙ mul_assoc (2 ^ s) (2 ^ t) z in
    let n : (x + 2 ^ (s + t) * z) / 2 ^ s ≡ z * 2 ^ t + x / 2 ^ s =
    ap (λ (m : ℕ). (x + m) / 2 ^ s) e ∙ add-mul-div_left x (2 ^ t * z) (pow_pos s)
    ∙ add_comm (x / 2 ^ s) (2 ^ t * z) ∙ ap (λ (m : ℕ). m + x / 2 ^ s) (mul_comm (2 ^ t) z) in
    ap (bit_or (x / 2 ^ s)) a ∙ or_shifted_r (z % 2 ^ s) t (x / 2 ^ s) b
    ∙ sym (ap (λ (m : ℕ). m % 2 ^ (s + t)) n ∙ mod-pow-add (z * 2 ^ t + x / 2 ^ s) s t
    ∙ ap₂ (λ (u w : ℕ). u % 2 ^ s * 2 ^ t + w) (high z t b) (low z t b))

pub joined_made : (x z s : ℕ) → s < 8 → x < 256 → bit_or (x / 2 ^ s) (z * 2 ^ (8 - s) % 256) ≡ across x z s
unfolding across
joined_made x z s h l =
    let q : s + (8 - s) ≡ 8 = omega arith in
    let e : x % 256 ≡ x = omega arith in
    rw e (subst (λ (n : ℕ). x < 2 ^ n → bit_or (x / 2 ^ s) (z * 2 ^ (8 - s) % 2 ^ n) ≡ (x + 2 ^ n * z) / 2 ^ s % 2 ^ n) q (split_or x z s (8 - s)) l)

-- ---- bits read

pub bit_of_run : (s : List ℕ) (start first i : ℕ) {r : ℕ} → r ≡ bit_in (get_or s (start + (first + i) / 8) 0) ((first + i) % 8) → r ≡ bits_from s start first i
unfolding bits_from bit_at
bit_of_run s start first i e =
    let f : (8 * start + first + i) / 8 ≡ start + (first + i) / 8 = omega arith in
    let g : (8 * start + first + i) % 8 ≡ (first + i) % 8 = omega arith in
    rw (f, g) e

pub few_one : (s : List ℕ) (q k c : ℕ) {r : ℕ} → k + c ≤ 8 → r ≡ get_or s q 0 / 2 ^ k % 2 ^ c → r ≡ value_of (bits_from s q k) c
few_one s q k c h e = e ∙ value_one s q k c h

pub few_two : (s : List ℕ) (q k c : ℕ) {v r : ℕ} → k < 8 → c < 8 → v ≡ across (get_or s q 0) (get_or s (q + 1) 0) k → r ≡ v % 2 ^ c → r ≡ value_of (bits_from s q k) c
few_two s q k c h l e f = f ∙ ap (λ (x : ℕ). x % 2 ^ c) e ∙ value_two s q k c (omega arith) (omega arith)

-- ---- bits put

pub with_bit_lem : (s : List ℕ) (i v : ℕ) {r : ℕ} → r ≡ byte_with (get_or s (i / 8) 0) (i % 8) v → set s (i / 8) r ≡ with_bit s i v
unfolding with_bit
with_bit_lem s i v e = rw e

pub appended-none : (d : List ℕ) (at : ℕ) (b : ℕ → ℕ) (c : ℕ) → c ≡ 0 → d ≡ appended d at b c
unfolding appended
appended-none d at b c e = rw e

pub value_fits : (b : ℕ → ℕ) (k c : ℕ) {v : ℕ} → ((j : ℕ) → b j < 2) → v ≡ value_of b c → k + c ≤ 8 → v * 2 ^ k < 256
value_fits b k c small e h = rw e (lt_of_lt_of_le (shl_lt c k (value_lt b small c)) (pow_mono {j = 8} (omega arith)))

-- the number that c ones make
ones-count : (c : ℕ) → value_of ones c ≡ 2 ^ c - 1
unfolding value_of ones
ones-count zero = refl
ones-count (suc c) = omega (arith, ones-count c, pow-suc 2 c, pow_pos c)

pub ones_value : (c : ℕ) {r : ℕ} → c < 8 → r ≡ 255 % 2 ^ c → r ≡ value_of ones c
ones_value c h e =
    let q : (8 - c) + c ≡ 8 = omega arith in
    e ∙ subst (λ (n : ℕ). (2 ^ n - 1) % 2 ^ c ≡ 2 ^ c - 1) q (ap (λ (n : ℕ). n % 2 ^ c) (ones_split (8 - c) c) ∙ low (2 ^ (8 - c) - 1) c (ones_lt c)) ∙ sym (ones-count c)

pub ones-fit : (k c : ℕ) {r : ℕ} → c < 8 → r ≡ 255 % 2 ^ c → k + c ≤ 8 → r * 2 ^ k < 256
ones-fit k c h e l = value_fits ones k c ones_small (ones_value c h e) l

pub put-run : (d : List ℕ) (at : ℕ) (b : ℕ → ℕ) (c : ℕ) {v : ℕ} {t : List ℕ} → ((j : ℕ) → b j < 2) → (c ≡ 0 → ⊥) → at % 8 + c ≤ 8 → at + c ≤ 8 * length d
    → v ≡ value_of b c → t ≡ with_bit d at v → t ≡ appended d at b c
put-run d at b c small p r l e f = f ∙ ap (with_bit d at) e ∙ value_put d at b small c (omega arith) r (omega arith)

pub put-moved : (d : List ℕ) (at : ℕ) (s : List ℕ) (start first c : ℕ) {v : ℕ} {t : List ℕ} → (c ≡ 0 → ⊥) → at % 8 + c ≤ 8 → at + c ≤ 8 * length d
    → v ≡ value_of (bits_from s (start + first / 8) (first % 8)) c → t ≡ with_bit d at v → t ≡ appended d at (bits_from s start first) c
put-moved d at s start first c p r l e f =
    put-run d at (bits_from s start first) c (bits_from_small s start first) p r l
    (e ∙ value_ext (bits_from s (start + first / 8) (first % 8)) (bits_from s start first) c (λ j i. run-start s start first j)) f
