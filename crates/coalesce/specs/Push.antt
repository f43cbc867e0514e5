-- What the steps of a push ask, after its tests.
use Rattle.std.specs.Prelude.{ℕ, ◌≡◌, List, length}
use Rattle.room.specs.Back.{Unmarked}
use Rattle.columns.specs.Pushing.{Pushing}
use Rattle.trial_truth.specs.Like.{OwnBlocks}
use Rattle.state.specs.declared.BatchCoalescer.{BatchCoalescer}
use Rattle.state.specs.Layout.{slots_length}
use Rattle.rules.specs.Batch.{Batch}

-- state, memories and batch in order; no buffer marked; and each open block a column's own
pub record Ready (s : BatchCoalescer) (slots pool books : List ℕ) (b : Batch) : Type 0 where
  pub pushing : Pushing s books b
  pub unmarked : Unmarked books
  pub own : OwnBlocks s books
  pub slots_are : length slots ≡ slots_length s
  pub pool_is : length pool ≡ s.pool.0
