-- The place of the part of the pool that a read of a buffer hands back, not its bytes alone.
use Rattle.std.specs.Prelude.{ℕ, ◌+◌, ◌≡◌, refl, Bool, true, false, cond, List}
use Rattle.std.proofs.Common.{ap, arith}
use Rattle.books.specs.declared.Entry.{Entry}
use Rattle.books.specs.Entry.{entry_of}
use Rattle.pool.specs.Read.{is_there, read_refusal}

-- where in the pool it begins: at the buffer's start; the empty part of a refused read at the beginning
unfoldable pub part_start : List ℕ → List ℕ → ℕ → ℕ
part_start s p i = cond (is_there s p i) (entry_of s i).start 0

-- a part of the pool: it begins so many bytes behind the pool's first, in the same memory. A place is a block of memory and an offset in it.
-- 01: "Reading a buffer hands back the part of the pool it fills"
pub record PartAt (pool part : ℕ × ℕ) (start : ℕ) : Type 0 where
  pub block : part.0 ≡ pool.0
  pub offset : part.1 ≡ pool.1 + start

-- the ways out of buffer_part
there : (s p : List ℕ) (i : ℕ) {n : ℕ} → n ≡ read_refusal s p i → (b : Bool) → is_there s p i ≡ b → (n ≡ 0 → b ≡ true) × ((n ≡ 0 → ⊥) → b ≡ false)
unfolding read_refusal
there s p i {n} e true q = let z : n ≡ 0 = rw q at e in (λ t. refl, λ t. absurd (t z))
there s p i {n} e false q = let z : n ≡ 13 = rw q at e in (λ t. absurd (omega arith), λ t. refl)

pub part_there : (pool : ℕ × ℕ) (s p : List ℕ) (i : ℕ) {n : ℕ} {e : Entry} → n ≡ read_refusal s p i → n ≡ 0 → e ≡ entry_of s i → PartAt pool (pool.0, e.start + pool.1) (part_start s p i)
unfolding part_start
part_there pool s p i {n} {e} a z q = rw ((there s p i a (is_there s p i) refl).0 z, ← q) (record { block = refl; offset = omega arith })

pub part_refused : (pool : ℕ × ℕ) (s p : List ℕ) (i : ℕ) {n : ℕ} → n ≡ read_refusal s p i → (n ≡ 0 → ⊥) → PartAt pool pool (part_start s p i)
unfolding part_start
part_refused pool s p i {n} a z = rw ((there s p i a (is_there s p i) refl).1 z) (record { block = refl; offset = omega arith })
