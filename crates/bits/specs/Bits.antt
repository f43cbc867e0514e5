-- Runs of bits in a list of bytes, the lowest bit of a byte first: what they read as, and what appending them makes.
use Rattle.std.specs.Prelude.{ℕ, zero, suc, ◌+◌, ◌-◌, ◌*◌, ◌/◌, ◌%◌, ◌^◌, min, cond, List, ltb, eqb, get_or, set}

-- bit k of a byte
unfoldable pub bit_in : ℕ → ℕ → ℕ
bit_in x k = x / 2 ^ k % 2

-- bit i of bytes, lowest first; 01: "Validity is one bit a row, least significant bit first, 1 valid"
unfoldable pub bit_at : List ℕ → ℕ → ℕ
bit_at s i = bit_in (get_or s (i / 8) 0) (i % 8)

-- bit j of the run that begins `first` bits after byte `start`
unfoldable pub bits_from : List ℕ → ℕ → ℕ → ℕ → ℕ
bits_from s start first j = bit_at s (8 * start + first + j)

-- the run of ones
unfoldable pub ones : ℕ → ℕ
ones j = 1

-- a byte with its bits below k, then those of v, and zeros above
unfoldable pub byte_with : ℕ → ℕ → ℕ → ℕ
byte_with x k v = x % 2 ^ k + v * 2 ^ k

-- v appended at bit i: in its byte the bits below stay, and those above become zero; no other byte changes
unfoldable pub with_bit : List ℕ → ℕ → ℕ → List ℕ
with_bit s i v = set s (i / 8) (byte_with (get_or s (i / 8) 0) (i % 8) v)

-- the first n bits of the run b appended one after the other from bit `at` on; 01: "spare bits of the last bitmap byte are zero"
unfoldable pub appended : List ℕ → ℕ → (ℕ → ℕ) → ℕ → List ℕ
appended d at b zero = d
appended d at b (suc k) = with_bit (appended d at b k) (at + k) (b k)

-- bit i once n bits of b are appended from bit `at` on: the run's where it lies in the run, zero above the run in the byte of the run's last bit,
-- and elsewhere what it was; 01: "Bytes past the filled rows and past a list's end keep what they held"
unfoldable pub afterwards : List ℕ → ℕ → (ℕ → ℕ) → ℕ → ℕ → ℕ
afterwards d at b n i =
    cond (ltb i at) (bit_at d i)
    (cond (ltb i (at + n)) (b (i - at))
    (cond (ltb 0 n) (cond (eqb (i / 8) ((at + n - 1) / 8)) 0 (bit_at d i)) (bit_at d i)))

-- the number that the first c bits of a run make
unfoldable pub value_of : (ℕ → ℕ) → ℕ → ℕ
value_of b zero = 0
value_of b (suc k) = value_of b k + b k * 2 ^ k

-- eight bits from bit s of the byte x on, of which the last ones are the lowest of the byte z
unfoldable pub across : ℕ → ℕ → ℕ → ℕ
across x z s = (x % 256 + 256 * z) / 2 ^ s % 256

-- how many of n bits fill up the byte that bit `at` lies in, where it is begun already
unfoldable pub head_bits : ℕ → ℕ → ℕ
head_bits at n = min ((8 - at % 8) % 8) n
