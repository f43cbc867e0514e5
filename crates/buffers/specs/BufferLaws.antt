-- One law for each exit of the calls on buffers: what the code has learnt there, and its contract.
use Rattle.std.specs.Prelude.{ℕ, ◌≡◌, List, []}
use Rattle.std.proofs.Math.Path.{refl, ap}
use Rattle.std.proofs.Common.{sym, ◌∙◌}
use native.Mathlib.Omega.{arith}
use borrow.Author.Tests.{ne_eqb}
use Rattle.pool.specs.Register.{registered, let_go}
use Rattle.pool.specs.Register as register
use Rattle.pool.specs.Read.{read_refusal, part_of}
use Rattle.state.specs.declared.BatchCoalescer.{BatchCoalescer}
use Rattle.state.specs.World.{world}
use Rattle.rules.specs.Ranges.{tested}
use Rattle.rules.specs.Calls.{buffer_number_call, buffer_call, register_call, let_go_call}
use Rattle.pool_reads.specs.Place.{part_start, PartAt}
use Rattle.buffers.specs.Buffers.{RegistersCall, LetsGoCall, buffer_start}
use Rattle.std.specs.Prelude.{Result, Err}
use Rattle.counts.specs.declared.BufferNumber.{BufferNumber}

-- n is what the tests answered
module _ (s : BatchCoalescer) (slots pool books : List ℕ) {n : ℕ} (e : n ≡ tested (world s slots pool books)) where
  pub number-refused : (i : ℕ) → (n ≡ 0 → ⊥) → n ≡ buffer_number_call (world s slots pool books) i
  unfolding buffer_number_call
  number-refused i h = rw (← e, ne_eqb n 0 h)

  pub number_read : (i : ℕ) {r : ℕ} → n ≡ 0 → r ≡ read_refusal books pool i → r ≡ buffer_number_call (world s slots pool books) i
  unfolding buffer_number_call
  number_read i z p = rw (← e, z) p

  pub part_refused : (i : ℕ) → (n ≡ 0 → ⊥) → [] ≡ buffer_call (world s slots pool books) i
  unfolding buffer_call
  part_refused i h = rw (← e, ne_eqb n 0 h)

  pub part_read : (i : ℕ) {r : List ℕ} → n ≡ 0 → r ≡ part_of books pool i → r ≡ buffer_call (world s slots pool books) i
  unfolding buffer_call
  part_read i z p = rw (← e, z) p

  -- where it lies
  pub place-refused : (i : ℕ) (at : ℕ × ℕ) → (n ≡ 0 → ⊥) → PartAt at at (buffer_start (world s slots pool books) i)
  unfolding buffer_start
  place-refused i at h = rw (← e, ne_eqb n 0 h) (record { block = refl; offset = omega arith })

  pub place_read : (i : ℕ) {at r : ℕ × ℕ} → n ≡ 0 → PartAt at r (part_start books pool i) → PartAt at r (buffer_start (world s slots pool books) i)
  unfolding buffer_start
  place_read i z p = rw (← e, z) p

  pub register_refused : (bytes : List ℕ) (capacity : ℕ) → (n ≡ 0 → ⊥) → RegistersCall (register_call (world s slots pool books) bytes capacity) pool books (Err n)
  unfolding register_call
  register_refused bytes capacity h =
      rw (ne_eqb (tested (world s slots pool books)) 0 (λ z. h (e ∙ z)), register_call)
      (record { answer_is = ap Err e; pool_is = refl; books_are = refl })

  pub register_done : (bytes : List ℕ) (capacity : ℕ) {pool' books' : List ℕ} {r : Result BufferNumber ℕ} → n ≡ 0 → register.Registers (registered books pool s.numbers bytes capacity) books' pool' r → RegistersCall (register_call (world s slots pool books) bytes capacity) pool' books' r
  unfolding register_call
  register_done bytes capacity z o =
      rw (sym e ∙ z, register_call)
      (record { answer_is = o.answer_is; pool_is = o.pool_is; books_are = o.books_are })

  pub go_refused : (i : ℕ) → (n ≡ 0 → ⊥) → LetsGoCall (let_go_call (world s slots pool books) i) books n
  unfolding let_go_call
  go_refused i h =
      rw (ne_eqb (tested (world s slots pool books)) 0 (λ z. h (e ∙ z)), let_go_call)
      (record { answer_is = e; books_are = refl })

  pub go_done : (i : ℕ) {books' : List ℕ} {r : ℕ} → n ≡ 0 → register.LetsGo (let_go books i) books' r → LetsGoCall (let_go_call (world s slots pool books) i) books' r
  unfolding let_go_call
  go_done i z o = rw (sym e ∙ z, let_go_call) (record { answer_is = o.answer_is; books_are = o.books_are })
