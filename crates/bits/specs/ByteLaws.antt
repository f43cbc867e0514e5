-- The bits of one byte, and of a byte to which bits are appended.
use Rattle.std.specs.Prelude.{ℕ, ◌+◌, ◌-◌, ◌*◌, ◌/◌, ◌%◌, ◌^◌, ◌≤◌, ◌<◌, ◌≡◌}
use Rattle.std.proofs.Common.{sym, ◌∙◌, ap, subst, arith, mod-lt, add_comm, mod-eq_of_lt, lt_of_lt_of_le, mul_assoc, add-mul, pow_pos, pow_mono, pow-add, shr-shr}
use Rattle.std.proofs.Math.Nat.{mod-mod, add-mul-mod_self_right, div-eq_of_lt}
use Rattle.std.proofs.Math.Arith.{digits_lt}
use Rattle.std.proofs.Math.Pow.{high, field, mod-mod-pow}
use Rattle.bits.specs.Bits.{bit_in, byte_with}

-- ---- the bits of a number

pub bit_lt : (x k : ℕ) → bit_in x k < 2
unfolding bit_in
bit_lt x k = omega arith

pub mod_of_mod : (x k i : ℕ) → i ≤ k → x % 2 ^ k % 2 ^ i ≡ x % 2 ^ i
mod_of_mod x k i h =
    let q : (k - i) + i ≡ k = omega arith in subst (λ (n : ℕ). x % 2 ^ n % 2 ^ i ≡ x % 2 ^ i) q (mod-mod-pow x (k - i) i)

-- the bits below k are those of the remainder
pub bit_mod : (x y k j : ℕ) → j < k → x % 2 ^ k ≡ y % 2 ^ k → bit_in x j ≡ bit_in y j
unfolding bit_in
bit_mod x y k j h e =
    sym (field x 1 j)
    ∙ ap (λ (n : ℕ). n / 2 ^ j) (sym (mod_of_mod x k (1 + j) (omega arith)) ∙ ap (λ (n : ℕ). n % 2 ^ (1 + j)) e ∙ mod_of_mod y k (1 + j) (omega arith))
    ∙ field y 1 j

pub bit_zero : (x j : ℕ) → x < 2 ^ j → bit_in x j ≡ 0
unfolding bit_in
bit_zero x j h = ap (λ (n : ℕ). n % 2) (div-eq_of_lt h)

pub bit_shift : (x k j : ℕ) → bit_in (x / 2 ^ k) j ≡ bit_in x (k + j)
unfolding bit_in
bit_shift x k j = ap (λ (n : ℕ). n % 2) (shr-shr x k j)

-- ---- a byte to which bits are appended

with_low : (x k v : ℕ) → byte_with x k v % 2 ^ k ≡ x % 2 ^ k
unfolding byte_with
with_low x k v = add-mul-mod_self_right (x % 2 ^ k) v (2 ^ k) ∙ mod-mod x (2 ^ k)

with_high : (x k v : ℕ) → byte_with x k v / 2 ^ k ≡ v
unfolding byte_with
with_high x k v = ap (λ (n : ℕ). n / 2 ^ k) (add_comm (x % 2 ^ k) (v * 2 ^ k)) ∙ high v k (mod-lt x (pow_pos k))

pub with_lt : (x k v c : ℕ) → v < 2 ^ c → byte_with x k v < 2 ^ (k + c)
unfolding byte_with
with_lt x k v c h =
    let q : v * 2 ^ k + x % 2 ^ k < 2 ^ c * 2 ^ k = digits_lt h (mod-lt x (pow_pos k)) in
    let e : 2 ^ (c + k) ≡ 2 ^ c * 2 ^ k = pow-add 2 c k in
    let f : 2 ^ (k + c) ≡ 2 ^ (c + k) = ap (λ (n : ℕ). 2 ^ n) (add_comm k c) in
    omega arith

pub with_byte : (x k b : ℕ) → k < 8 → b < 2 → byte_with x k b < 256
with_byte x k b h l = lt_of_lt_of_le (with_lt x k b 1 l) (pow_mono {j = 8} (omega arith))

-- the bits below it stay, it is what was appended, and those above it are zero
pub bit_lower : (x k b j : ℕ) → j < k → bit_in (byte_with x k b) j ≡ bit_in x j
bit_lower x k b j h = bit_mod (byte_with x k b) x k j h (with_low x k b)

pub bit_same : (x k b : ℕ) → b < 2 → bit_in (byte_with x k b) k ≡ b
unfolding bit_in
bit_same x k b h = rw with_high (omega arith)

pub bit_upper : (x k b j : ℕ) → b < 2 → k < j → bit_in (byte_with x k b) j ≡ 0
bit_upper x k b j h l = bit_zero (byte_with x k b) j (lt_of_lt_of_le (with_lt x k b 1 h) (pow_mono (omega arith)))

-- the bits appended to what is appended already
pub with-with : (x k v c w : ℕ) → v < 2 ^ c → byte_with (byte_with x k v) (k + c) w ≡ byte_with x k (v + w * 2 ^ c)
unfolding byte_with
with-with x k v c w h =
    let a : (x % 2 ^ k + v * 2 ^ k) % 2 ^ (k + c) ≡ x % 2 ^ k + v * 2 ^ k = mod-eq_of_lt (with_lt x k v c h) in
    let e : w * 2 ^ (k + c) ≡ w * 2 ^ c * 2 ^ k =
    ap (λ (n : ℕ). w * 2 ^ n) (add_comm k c) ∙ ap (λ (n : ℕ). w * n) (pow-add 2 c k) ∙ sym (mul_assoc w (2 ^ c) (2 ^ k)) in
    let f : (v + w * 2 ^ c) * 2 ^ k ≡ v * 2 ^ k + w * 2 ^ c * 2 ^ k = add-mul v (w * 2 ^ c) (2 ^ k) in
    omega arith
