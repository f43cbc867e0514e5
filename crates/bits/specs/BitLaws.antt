-- What appending bits does: every bit and every byte afterwards, and runs appended in parts.
use Prim.Native.Nat.{ℕ, zero, suc, ◌+◌, ◌-◌, ◌*◌, ◌/◌, ◌%◌, ◌≤◌, ◌<◌}
use Rattle.std.specs.Prelude.{◌≡◌, ◌≢◌, List, ltb, eqb, get_or}
use Rattle.std.proofs.Math.Path.{refl}
use Rattle.std.proofs.Common.{sym, ◌∙◌, ap, add-suc, length-set, get_or-set_same, get_or-set_other}
use Rattle.std.proofs.Math.Bool.{cond}
use native.Mathlib.Omega.{arith}
use Rattle.std.proofs.Math.Nat.{add-zero, add_assoc}
use Rattle.std.proofs.Math.Decide.{ℕ_discrete, dec_lt}
use Rattle.std.proofs.Math.ListN.{length}
use Rattle.std.proofs.Math.Seq.{set_out}
use borrow.Author.Tests.{lt-ltb, le-ltb, eq-eqb, ne_eqb}
use Rattle.bits.specs.Bits.{bit_in, bit_at, bits_from, ones, byte_with, with_bit, appended, afterwards}
use Rattle.bits.specs.ByteLaws.{bit_lt, bit_lower, bit_same, bit_upper, with_byte}

-- ---- runs

pub bit_at_small : (s : List ℕ) (i : ℕ) → bit_at s i < 2
unfolding bit_at
bit_at_small s i = bit_lt (get_or s (i / 8) 0) (i % 8)

pub bits_from_small : (s : List ℕ) (start first j : ℕ) → bits_from s start first j < 2
unfolding bits_from
bits_from_small s start first j = bit_at_small s (8 * start + first + j)

pub ones_small : (j : ℕ) → ones j < 2
unfolding ones
ones_small j = omega arith

-- a bit is its byte's
pub bit_of_byte : (s t : List ℕ) (i : ℕ) → get_or s (i / 8) 0 ≡ get_or t (i / 8) 0 → bit_at s i ≡ bit_at t i
unfolding bit_at
bit_of_byte s t i e = ap (λ (x : ℕ). bit_in x (i % 8)) e

pub run_bit : (s : List ℕ) (start first j : ℕ) → bits_from s start first j ≡ bit_at s (8 * start + first + j)
unfolding bits_from
run_bit s start first j = refl

pub ones_bit : (j : ℕ) → ones j ≡ 1
unfolding ones
ones_bit j = refl

-- one run, from several starts
pub run-start : (s : List ℕ) (start first j : ℕ) → bits_from s (start + first / 8) (first % 8) j ≡ bits_from s start first j
unfolding bits_from
run-start s start first j = ap (bit_at s) (omega arith)

pub run_later : (s : List ℕ) (start first k j : ℕ) → bits_from s start (first + k) j ≡ bits_from s start first (k + j)
unfolding bits_from
run_later s start first k j = ap (bit_at s) (omega arith)

pub run_byte_later : (s : List ℕ) (q k i j : ℕ) → bits_from s (q + i) k j ≡ bits_from s q k (8 * i + j)
unfolding bits_from
run_byte_later s q k i j = ap (bit_at s) (omega arith)

-- ---- one bit appended

pub length-with_bit : (s : List ℕ) (i v : ℕ) → length (with_bit s i v) ≡ length s
unfolding with_bit
length-with_bit s i v = simp length-set

byte-with_bit : (s : List ℕ) (i v m : ℕ) → m ≢ i / 8 → get_or (with_bit s i v) m 0 ≡ get_or s m 0
unfolding with_bit
byte-with_bit s i v m h = get_or-set_other s (i / 8) m _ 0 h

byte_there : (s : List ℕ) (i v : ℕ) → i / 8 < length s → get_or (with_bit s i v) (i / 8) 0 ≡ byte_with (get_or s (i / 8) 0) (i % 8) v
unfolding with_bit
byte_there s i v h = get_or-set_same s (i / 8) _ 0 h

with_bit-out : (s : List ℕ) (i v : ℕ) → length s ≤ i / 8 → with_bit s i v ≡ s
unfolding with_bit
with_bit-out s i v h = set_out s (i / 8) _ h

bit_put : (s : List ℕ) (i b : ℕ) → i / 8 < length s → b < 2 → bit_at (with_bit s i b) i ≡ b
unfolding bit_at
bit_put s i b h l = rw byte_there (bit_same _ (i % 8) b l)

bit_below : (s : List ℕ) (i b j : ℕ) → i / 8 < length s → j < i → bit_at (with_bit s i b) j ≡ bit_at s j
unfolding bit_at
bit_below s i b j h l = go (ℕ_discrete (j / 8) (i / 8))
  where
    go : Dec (j / 8 ≡ i / 8) → bit_in (get_or (with_bit s i b) (j / 8) 0) (j % 8) ≡ bit_in (get_or s (j / 8) 0) (j % 8)
    go (yes e) = rw (e, byte_there) (bit_lower _ (i % 8) b (j % 8) (omega arith))
    go (no n) = rw (byte-with_bit s i b (j / 8) n)

bit_spare : (s : List ℕ) (i b j : ℕ) → i / 8 < length s → b < 2 → i < j → j / 8 ≡ i / 8 → bit_at (with_bit s i b) j ≡ 0
unfolding bit_at
bit_spare s i b j h l k e = rw (e, byte_there) (bit_upper _ (i % 8) b (j % 8) l (omega arith))

bytes-with_bit : (s : List ℕ) (i b : ℕ) → b < 2 → ((m : ℕ) → get_or s m 0 < 256) → (m : ℕ) → get_or (with_bit s i b) m 0 < 256
bytes-with_bit s i b l f m = go (ℕ_discrete m (i / 8)) (dec_lt (i / 8) (length s))
  where
    go : Dec (m ≡ i / 8) → Dec (i / 8 < length s) → get_or (with_bit s i b) m 0 < 256
    go (no n) h = rw (byte-with_bit s i b m n) (f m)
    go (yes e) (yes h) = rw (e, byte_there s i b h) (with_byte _ (i % 8) b (omega arith) l)
    go (yes e) (no h) = rw (with_bit-out s i b (omega arith)) (f m)

-- ---- a run appended

module _ (d : List ℕ) (at : ℕ) (b : ℕ → ℕ) where
  pub length-appended : (n : ℕ) → length (appended d at b n) ≡ length d
  unfolding appended
  length-appended zero = refl
  length-appended (suc n) = length-with_bit _ _ _ ∙ length-appended n

  -- the bytes before the first bit's, and past the last bit's
  pub byte-before : (n m : ℕ) → 8 * m + 8 ≤ at → get_or (appended d at b n) m 0 ≡ get_or d m 0
  unfolding appended
  byte-before zero m h = refl
  byte-before (suc n) m h = byte-with_bit (appended d at b n) (at + n) (b n) m (omega arith) ∙ byte-before n m h

  pub byte-after : (n m : ℕ) → at + n ≤ 8 * m → get_or (appended d at b n) m 0 ≡ get_or d m 0
  unfolding appended
  byte-after zero m h = refl
  byte-after (suc n) m h = byte-with_bit (appended d at b n) (at + n) (b n) m (omega arith) ∙ byte-after n m (omega arith)

  -- the bits below
  pub bit_kept : (n i : ℕ) → at + n ≤ 8 * length d → i < at → bit_at (appended d at b n) i ≡ bit_at d i
  unfolding appended
  bit_kept zero i h l = refl
  bit_kept (suc n) i h l = bit_below (appended d at b n) (at + n) (b n) i (omega (arith, length-appended n)) (omega arith) ∙ bit_kept n i (omega arith) l

  -- the bits above, but for the spare bits of the last byte
  pub bit_past : (n i : ℕ) → at + n ≤ i → (0 < n → i / 8 ≢ (at + n - 1) / 8) → bit_at (appended d at b n) i ≡ bit_at d i
  unfolding appended
  bit_past zero i l e = refl
  bit_past (suc n) i l e =
      let q : i / 8 ≢ (at + suc n - 1) / 8 = e (omega arith) in
      bit_of_byte (appended d at b (suc n)) d i (byte-after (suc n) (i / 8) (omega arith))

  -- appended in parts
  pub appended_join : (k c : ℕ) → appended (appended d at b k) (at + k) (λ j. b (k + j)) c ≡ appended d at b (k + c)
  unfolding appended
  appended_join k zero = rw add-zero
  appended_join k (suc c) = rw (add-suc, add_assoc, appended_join k c)

  module _ (small : (j : ℕ) → b j < 2) where
    -- the bits appended
    pub bit_appended : (n j : ℕ) → at + n ≤ 8 * length d → j < n → bit_at (appended d at b n) (at + j) ≡ b j
    unfolding appended
    bit_appended zero j h l = absurd (omega arith)
    bit_appended (suc n) j h l = go (dec_lt j n) (bit_appended n j)
      where
        go : Dec (j < n) → (at + n ≤ 8 * length d → j < n → bit_at (appended d at b n) (at + j) ≡ b j) → bit_at (with_bit (appended d at b n) (at + n) (b n)) (at + j) ≡ b j
        go (yes e) r = bit_below (appended d at b n) (at + n) (b n) (at + j) (omega (arith, length-appended n)) (omega arith) ∙ r (omega arith) e
        go (no e) r =
            let q : j ≡ n = omega arith in
            rw q (bit_put (appended d at b n) (at + n) (b n) (omega (arith, length-appended n)) (small n))

    -- the spare bits of the last byte
    pub bit_cleared : (n i : ℕ) → at + n ≤ 8 * length d → 0 < n → at + n ≤ i → i / 8 ≡ (at + n - 1) / 8 → bit_at (appended d at b n) i ≡ 0
    unfolding appended
    bit_cleared zero i h p l e = absurd (omega arith)
    bit_cleared (suc n) i h p l e =
        bit_spare (appended d at b n) (at + n) (b n) i (omega (arith, length-appended n)) (small n) (omega arith) (omega arith)

    -- bytes stay bytes
    pub bytes-appended : ((m : ℕ) → get_or d m 0 < 256) → (n m : ℕ) → get_or (appended d at b n) m 0 < 256
    unfolding appended
    bytes-appended f zero m = f m
    bytes-appended f (suc n) m = bytes-with_bit (appended d at b n) (at + n) (b n) (small n) (bytes-appended f n) m

    -- every bit afterwards
    pub bit_after : (n i : ℕ) → at + n ≤ 8 * length d → bit_at (appended d at b n) i ≡ afterwards d at b n i
    unfolding afterwards
    bit_after n i h = in_place (dec_lt i at) (dec_lt i (at + n)) (dec_lt 0 n) (ℕ_discrete (i / 8) ((at + n - 1) / 8))
      where
        in_place : Dec (i < at) → Dec (i < at + n) → Dec (0 < n) → Dec (i / 8 ≡ (at + n - 1) / 8) → bit_at (appended d at b n) i
            ≡ cond (ltb i at) (bit_at d i)
            (cond (ltb i (at + n)) (b (i - at))
            (cond (ltb 0 n) (cond (eqb (i / 8) ((at + n - 1) / 8)) 0 (bit_at d i)) (bit_at d i)))
        in_place (yes l) r p e = rw (lt-ltb i at l) (bit_kept n i h l)
        in_place (no l) (yes r) p e =
            let q : at + (i - at) ≡ i = omega arith in
            rw (le-ltb i at (omega arith), lt-ltb i (at + n) r) (ap (bit_at (appended d at b n)) (sym q) ∙ bit_appended n (i - at) h (omega arith))
        in_place (no l) (no r) (yes p) (yes e) =
            rw (le-ltb i at (omega arith), le-ltb i (at + n) (omega arith), lt-ltb 0 n p, eq-eqb _ _ e) (bit_cleared n i h p (omega arith) e)
        in_place (no l) (no r) (yes p) (no e) =
            rw (le-ltb i at (omega arith), le-ltb i (at + n) (omega arith), lt-ltb 0 n p, ne_eqb _ _ e) (bit_past n i (omega arith) (λ k. e))
        in_place (no l) (no r) (no p) e =
            rw (le-ltb i at (omega arith), le-ltb i (at + n) (omega arith), le-ltb 0 n (omega arith)) (bit_past n i (omega arith) (λ k. absurd (p k)))

-- what is appended depends on the run's first n bits only
pub appended_ext : (d : List ℕ) (at : ℕ) (b b' : ℕ → ℕ) (n : ℕ) → ((j : ℕ) → j < n → b j ≡ b' j) → appended d at b n ≡ appended d at b' n
unfolding appended
appended_ext d at b b' zero h = refl
appended_ext d at b b' (suc n) h = rw (appended_ext d at b b' n (λ j l. h j (omega arith)), h n (omega arith))
