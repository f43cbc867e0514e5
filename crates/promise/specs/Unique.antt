-- Two outcomes that keep a promise at the same input are the same: a law for each form of contract.
use Rattle.std.specs.Prelude.{ℕ, ◌≡◌, List}
use Rattle.std.proofs.Common.{sym, ◌∙◌}
use Rattle.state.specs.World.{World}
use Rattle.rules.specs.declared.Step.{Step}
use Rattle.rules.specs.Batch.{Batch}
use Rattle.rules.specs.Calls.{Answered, RegisterAnswer}
use Rattle.rules.specs.Calls as calls
use Rattle.finishing.specs.Finish.{answered}
use Rattle.completed.specs.declared.Dropped.{Dropped}
use Rattle.completed.specs.Drop.{Drops}
use Rattle.set_up.specs.SetUp.{SetsUp}
use Rattle.buffers.specs.Buffers.{RegistersCall, LetsGoCall}
use Rattle.capi.specs.Api.{Memory, Said, said, Told, told}
use Rattle.std.specs.Prelude.{Result}
use Rattle.counts.specs.declared.BufferNumber.{BufferNumber}

-- ---- equalities

-- every contract of the form x ≡ f: push_batch and finish_buffered_batch (x is the answer and the world), read_row, read_buffer, buffer_refusal,
-- biggest_coalesce_batch_size and its setter, get_buffered_rows, has_completed_batch, is_empty
pub same_outcome : {A : Type 0} {x y f : A} → x ≡ f → y ≡ f → x ≡ y
same_outcome e d = e ∙ sym d

-- answer and memories: pw_new, pw_push_batch, pw_finish_buffered_batch, pw_next_completed_batch, pw_register_buffer, pw_let_go
pub same-said : {r q : ℕ} {m n : Memory} {f : Said} → said r m ≡ f → said q n ≡ f → said r m ≡ said q n
same-said = same_outcome

-- answer and bytes of the one memory lent: pw_read_row, pw_read_buffer, pw_set_biggest_coalesce_batch_size
pub same-told : {r q : ℕ} {b d : List ℕ} {f : Told} → told r b ≡ f → told q d ≡ f → told r b ≡ told q d
same-told = same_outcome

-- a number: pw_buffer_refusal, pw_biggest_coalesce_batch_size, pw_get_buffered_rows, pw_has_completed_batch, pw_is_empty
pub same_number : {r q f : ℕ} → r ≡ f → q ≡ f → r ≡ q
same_number = same_outcome

-- push_batch, in every world: no premise
pub same_push : (w : World) (b : Batch) {r q : Step} {slots slots' pool pool' books books' : List ℕ} → answered r slots pool books ≡ calls.push_call w b → answered q slots' pool' books' ≡ calls.push_call w b → answered r slots pool books ≡ answered q slots' pool' books'
same_push w b = same_outcome

-- ---- part by part

-- new_coalescer
pub same_set_up : {a : Answered} {books books' : List ℕ} {r q : Step} → SetsUp a books r → SetsUp a books' q → (r.state ≡ q.state) × (r.number ≡ q.number) × (books ≡ books')
same_set_up p o = (same_outcome p.state_is o.state_is, same_outcome p.number_is o.number_is, same_outcome p.books_are o.books_are)

-- next_completed_batch
pub same_drop : {d : calls.Dropped} {books books' : List ℕ} {r q : Dropped} → Drops d books r → Drops d books' q → (r.state ≡ q.state) × (r.number ≡ q.number) × (r.rows.0 ≡ q.rows.0) × (books ≡ books')
same_drop p o =
    (same_outcome p.state_is o.state_is, same_outcome p.number_is o.number_is, same_outcome p.rows_are o.rows_are, same_outcome p.books_are o.books_are)

-- register_buffer
pub same_register : {a : RegisterAnswer} {pool pool' books books' : List ℕ} {r q : Result BufferNumber ℕ} → RegistersCall a pool books r → RegistersCall a pool' books' q → (r ≡ q) × (pool ≡ pool') × (books ≡ books')
same_register p o = (same_outcome p.answer_is o.answer_is, same_outcome p.pool_is o.pool_is, same_outcome p.books_are o.books_are)

-- let_go
pub same_let_go : {a : Answered} {books books' : List ℕ} {r q : ℕ} → LetsGoCall a books r → LetsGoCall a books' q → (r ≡ q) × (books ≡ books')
same_let_go p o = (same_outcome p.answer_is o.answer_is, same_outcome p.books_are o.books_are)
