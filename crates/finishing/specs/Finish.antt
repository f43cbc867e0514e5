-- What finishing asks, and what it leaves: the answer and the world of 01's finishing, done or refused.
use Rattle.std.specs.Prelude.{ℕ, ◌+◌, ◌≡◌, cond, List, length}
use Rattle.tallies.specs.Tally.{with_tally}
use Rattle.state.specs.declared.BatchCoalescer.{BatchCoalescer}
use Rattle.state.specs.World.{World, world}
use Rattle.state.specs.Layout.{is_views, slots_length, tally, next_slot}
use Rattle.rules.specs.Steps.{Res, each, with_counts}
use Rattle.rules.specs.Views.{closed}
use Rattle.rules.specs.Calls.{Answered, or_old}
use Rattle.push_safety.specs.Along.{Along}
use Rattle.rules.specs.declared.Step.{Step}
use Rattle.open_blocks.specs.Open.{Booked}

-- state and books are in order, beside slots of the right length
pub record Closable (s : BatchCoalescer) (slots books : List ℕ) : Type 0 where
  pub booked : Booked s books
  pub slots_are : length slots ≡ slots_length s

-- the open block of one column joins its list, if it is one of views
abbrev pub close : World → ℕ → World
close v c = cond (is_views v.state c) (closed v c) v

pub record ClosesOne (s : BatchCoalescer) (slots books : List ℕ) (c : ℕ) (t : BatchCoalescer) (slots' books' : List ℕ) : Type 0 where
  pub is : (pool : List ℕ) → close (world s slots pool books) c ≡ world t slots' pool books'

-- those of the first c columns do
pub record ClosesAll (s : BatchCoalescer) (slots books : List ℕ) (c : ℕ) (t : BatchCoalescer) (slots' books' : List ℕ) : Type 0 where
  pub is : (pool : List ℕ) → each c close (world s slots pool books) ≡ world t slots' pool books'
  pub along : (pool : List ℕ) → length pool ≡ s.pool.0 → Along (world s slots pool books) (world t slots' pool books')

-- a step's answer, with the memories as it left them
abbrev pub answered : Step → List ℕ → List ℕ → List ℕ → Answered
answered q slots pool books = record { number = q.number; world = world q.state slots pool books }

-- the answer and the world are those that f gives, and where f refuses they are as they were: f is `finished`, or `if_full`. The pool is not lent
pub record Finishes (f : World → Res) (s : BatchCoalescer) (slots books : List ℕ) (q : Step) (slots' books' : List ℕ) : Type 0 where
  pub is : (pool : List ℕ) → answered q slots' pool books' ≡ or_old (world s slots pool books) (f (world s slots pool books))

-- the slot being filled is queued with so many rows, and the next one begun
pub record QueuesSlot (s : BatchCoalescer) (books : List ℕ) (rows : ℕ) (t : BatchCoalescer) (books' : List ℕ) : Type 0 where
  pub state_is : t ≡ with_counts s (next_slot s s.place) (s.queued + 1) 0
  pub books_are : books' ≡ with_tally books (tally s s.place 0) rows
