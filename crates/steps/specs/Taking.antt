-- What the steps of a push ask, and what they leave.
use Rattle.std.specs.Prelude.{ℕ, ◌+◌, ◌≤◌, ◌<◌, List}
use Rattle.state.specs.World.{World}
use Rattle.rules.specs.Batch.{Batch}
use Rattle.rules.specs.Steps.{bind}
use Rattle.rules.specs.Push.{part_taken, if_full}
use Rattle.rules.specs.Stays.{SameSetUp}
use Rattle.push_safety.specs.Run.{Run, Readable}
use Rattle.rules.specs.declared.Step.{Step}
use Rattle.rules.specs.Leaves.{Steps}
use Rattle.routes.specs.declared.Sources.{Sources}
use Rattle.routes.specs.Sourced.{Sourced}

-- ---- parts

-- n rows of the batch from row `from` on may be taken; what is decided of its columns was decided in a world of the same set-up
pub record Taking (w : World) (b : Batch) (x : Sources) (from n : ℕ) : Type 0 where
  pub run : Run w
  pub reads : Readable w b
  pub origin : World
  pub same : SameSetUp origin.state w.state
  pub sourced : Sourced x origin b
  pub there : from + n ≤ b.rows
  pub room : w.state.buffered.0 + n ≤ w.state.rows.0

-- the part is taken, or is not; w₀ is the world in which its columns were decided
pub record Takes (w : World) (b : Batch) (x : Sources) (from n : ℕ) (q : Step) (slots' pool' books' : List ℕ) : Type 0 where
  pub steps : (w₀ : World) → SameSetUp w₀.state w.state → Sourced x w₀ b → Steps (part_taken w₀ w b from n) q slots' pool' books'

-- and finishing behind it, where the slot is full then
pub record TakesThen (w : World) (b : Batch) (x : Sources) (from n : ℕ) (q : Step) (slots' pool' books' : List ℕ) : Type 0 where
  pub steps : (w₀ : World) → SameSetUp w₀.state w.state → Sourced x w₀ b → Steps (bind (part_taken w₀ w b from n) if_full) q slots' pool' books'

-- the whole batch may be cut
pub record Cutting (w : World) (b : Batch) (x : Sources) : Type 0 where
  pub run : Run w
  pub reads : Readable w b
  pub sourced : Sourced x w b
  pub below : w.state.buffered.0 < w.state.target.0
