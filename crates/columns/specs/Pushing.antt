-- What the steps of a push ask of state, books and batch, whatever slots and pool of the right lengths are lent beside them.
use Rattle.std.specs.Prelude.{ℕ, ◌<◌, ◌≡◌, ◌≢◌, List, [], length}
use Rattle.state.specs.declared.BatchCoalescer.{BatchCoalescer}
use Rattle.state.specs.World.{world}
use Rattle.state.specs.Layout.{slots_length}
use Rattle.rules.specs.Batch.{Batch}
use Rattle.push_safety.specs.Run.{Run, Readable}

-- state and books are in order
pub record Running (s : BatchCoalescer) (books : List ℕ) : Type 0 where
  pub run : (slots pool : List ℕ) → length slots ≡ slots_length s → length pool ≡ s.pool.0 → Run (world s slots pool books)
  pub below : s.buffered.0 < s.target.0

-- besides, the batch can be read, and has a row
pub record Pushing (s : BatchCoalescer) (books : List ℕ) (b : Batch) : Type 0 where
  pub running : Running s books
  pub reads : Readable (world s [] [] books) b
  pub some : b.rows ≢ 0
