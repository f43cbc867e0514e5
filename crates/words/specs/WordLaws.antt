-- The laws of words in bytes: same place, other place, length, bound.
use Rattle.std.specs.Prelude.{ℕ, zero, suc, ◌+◌, ◌-◌, ◌/◌, ◌%◌, ◌≤◌, ◌<◌, ◌^◌, ◌≡◌, ◌≢◌, List, [], ◌∷◌, get_or, set}
use Rattle.std.proofs.Common.{get_or-set_other}
use native.Mathlib.Omega.{arith}
use Rattle.std.proofs.Math.ListN.{length, length-set}
use Rattle.std.proofs.Math.Seq.{get_or-set_same}
use Rattle.words.specs.Word.{word_of, word32, with_word32}

-- every element is a byte
pub record Bytes (s : List ℕ) : Type 0 where
  pub byte : (i : ℕ) → get_or s i 0 < 256

-- what get32 returns
pub word_is : (s : List ℕ) (at : ℕ) {r : ℕ} → r ≡ word_of (get_or s at 0) (get_or s (at + 1) 0) (get_or s (at + 2) 0) (get_or s (at + 3) 0) → r ≡ word32 s at
unfolding word32
word_is s at e = e

-- a put changes no length
pub length-with_word32 : (s : List ℕ) (at v : ℕ) → length (with_word32 s at v) ≡ length s
unfolding with_word32
length-with_word32 s at v = simp length-set

-- a word is below 2 ^ 32
pub word32_lt : (s : List ℕ) (at : ℕ) → Bytes s → word32 s at < 2 ^ 32
unfolding word32 word_of
word32_lt s at b = omega (arith, b.byte at, b.byte (at + 1), b.byte (at + 2), b.byte (at + 3))

-- the four bytes of a stored word, and every other byte
module _ (s : List ℕ) (at v : ℕ) where
  pub byte_other : (k : ℕ) → k ≢ at → k ≢ at + 1 → k ≢ at + 2 → k ≢ at + 3 → get_or (with_word32 s at v) k 0 ≡ get_or s k 0
  unfolding with_word32
  byte_other k h₀ h₁ h₂ h₃ = simp (get_or-set_other, h₀, h₁, h₂, h₃)

  pub byte0 : at + 4 ≤ length s → get_or (with_word32 s at v) at 0 ≡ v % 256
  unfolding with_word32
  byte0 h =
      let n₁ : at ≢ at + 1 = omega arith in
      let n₂ : at ≢ at + 2 = omega arith in
      let n₃ : at ≢ at + 3 = omega arith in
      let l : at < length s = omega arith in
      simp (get_or-set_other, get_or-set_same)

  pub byte1 : at + 4 ≤ length s → get_or (with_word32 s at v) (at + 1) 0 ≡ v / 256 % 256
  unfolding with_word32
  byte1 h =
      let n₂ : at + 1 ≢ at + 2 = omega arith in
      let n₃ : at + 1 ≢ at + 3 = omega arith in
      let l : at + 1 < length (set s at (v % 256)) = simp length-set (omega arith) in
      simp (get_or-set_other, get_or-set_same)

  pub byte2 : at + 4 ≤ length s → get_or (with_word32 s at v) (at + 2) 0 ≡ v / 65536 % 256
  unfolding with_word32
  byte2 h =
      let n₃ : at + 2 ≢ at + 3 = omega arith in
      let l : at + 2 < length (set (set s at (v % 256)) (at + 1) (v / 256 % 256)) = simp length-set (omega arith) in
      simp (get_or-set_other, get_or-set_same)

  pub byte3 : at + 4 ≤ length s → get_or (with_word32 s at v) (at + 3) 0 ≡ v / 16777216
  unfolding with_word32
  byte3 h =
      let l : at + 3 < length (set (set (set s at (v % 256)) (at + 1) (v / 256 % 256)) (at + 2) (v / 65536 % 256)) =
      simp length-set (omega arith) in
      simp get_or-set_same

  -- a word read where it was put
  pub word32-same : at + 4 ≤ length s → v < 2 ^ 32 → word32 (with_word32 s at v) at ≡ v
  unfolding word32 word_of
  word32-same h f = rw (byte0 h, byte1 h, byte2 h, byte3 h) (omega arith)

  -- a word read elsewhere: the two places are 4 apart or more
  pub word32_other : (k : ℕ) → 4 ≤ (k - at) + (at - k) → word32 (with_word32 s at v) k ≡ word32 s k
  unfolding word32 word_of
  word32_other k d =
      rw (
        byte_other k (omega arith) (omega arith) (omega arith) (omega arith),
        byte_other (k + 1) (omega arith) (omega arith) (omega arith) (omega arith),
        byte_other (k + 2) (omega arith) (omega arith) (omega arith) (omega arith),
        byte_other (k + 3) (omega arith) (omega arith) (omega arith) (omega arith),
      )

-- a stored byte, or word, leaves a list of bytes one
byte-set : (s : List ℕ) (i v : ℕ) → ((k : ℕ) → get_or s k 0 < 256) → v < 256 → (k : ℕ) → get_or (set s i v) k 0 < 256
byte-set [] i v b h k = b k
byte-set (x ∷ s) zero v b h zero = h
byte-set (x ∷ s) zero v b h (suc k) = b (suc k)
byte-set (x ∷ s) (suc i) v b h zero = b zero
byte-set (x ∷ s) (suc i) v b h (suc k) = byte-set s i v (λ j. b (suc j)) h k

pub bytes-set : {s : List ℕ} (i v : ℕ) → Bytes s → v < 256 → Bytes (set s i v)
bytes-set {s} i v b h = record { byte = byte-set s i v b.byte h }

pub bytes-with_word32 : (s : List ℕ) (at v : ℕ) → Bytes s → v < 2 ^ 32 → Bytes (with_word32 s at v)
unfolding with_word32
bytes-with_word32 s at v b h =
    bytes-set (at + 3) (v / 16777216)
    (bytes-set (at + 2) (v / 65536 % 256)
    (bytes-set (at + 1) (v / 256 % 256) (bytes-set at (v % 256) b (omega arith)) (omega arith))
    (omega arith))
    (omega arith)
