-- What a trial answers.
use Rattle.std.specs.Prelude.{ℕ, ◌≡◌, List, length}
use Rattle.state.specs.declared.BatchCoalescer.{BatchCoalescer}
use Rattle.state.specs.World.{world}
use Rattle.state.specs.Layout.{slots_length}
use Rattle.rules.specs.Batch.{Batch}
use Rattle.rules.specs.Push.{stepped}
use Rattle.trial_truth.specs.Like.{number_of}

-- the number of a trial: the one that the steps of the push refuse with, and 0 where they do not, whatever slots and pool are lent.
-- 01: "Room is worked out along the push steps; the first step without it names the number."
pub record Answers (s : BatchCoalescer) (books : List ℕ) (b : Batch) (number : ℕ) : Type 0 where
  pub number_is : (slots pool : List ℕ) → length slots ≡ slots_length s → length pool ≡ s.pool.0 → number_of (stepped (world s slots pool books) b) ≡ number
