-- What registering and letting go leave, and where a buffer that is read lies.
use Rattle.std.specs.Prelude.{ℕ, ◌≡◌, cond, List, eqb}
use Rattle.pool_reads.specs.Place.{part_start}
use Rattle.state.specs.World.{World}
use Rattle.rules.specs.Ranges.{tested}
use Rattle.rules.specs.Calls.{Answered, RegisterAnswer}
use Rattle.std.specs.Prelude.{Result}
use Rattle.counts.specs.declared.BufferNumber.{BufferNumber}

-- the contracts: answer, pool and books are the call's. State and slots are not lent to be changed
pub record RegistersCall (a : RegisterAnswer) (pool' books' : List ℕ) (r : Result BufferNumber ℕ) : Type 0 where
  pub answer_is : r ≡ a.answer
  pub pool_is : pool' ≡ a.world.pool
  pub books_are : books' ≡ a.world.books

pub record LetsGoCall (a : Answered) (books' : List ℕ) (r : ℕ) : Type 0 where
  pub answer_is : r ≡ a.number
  pub books_are : books' ≡ a.world.books

-- where in the pool the part begins that a read hands back; an empty one, where the tests refuse, at the beginning
unfoldable pub buffer_start : World → ℕ → ℕ
buffer_start w i = cond (eqb (tested w) 0) (part_start w.books w.pool i) 0
