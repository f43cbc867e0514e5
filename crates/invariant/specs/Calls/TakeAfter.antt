-- A part copied and buffered: the rows buffered are those that were, then those of the part.
use Rattle.std.specs.Prelude.{ℕ, ◌+◌, ◌<◌, ◌≡◌, false, ◌++◌}
use Rattle.words.specs.WordLaws.{Bytes}
use Rattle.books.specs.Entry.{entry_of, is_free}
use Rattle.state.specs.World.{World}
use Rattle.state.specs.Rows.{queued_batches, buffered_rows}
use Rattle.rules.specs.Batch.{Batch}
use Rattle.rules.specs.Stays.{SameSetUp}
use Rattle.push_safety.specs.Run.{Goes}
use Rattle.invariant.specs.Holding.{Spared, Holding, Stands, PoolStays}
use Rattle.invariant.specs.RowLaws.{batch_part}

-- from one world of a push to a later one, whatever is queued or buffered: the batch reads the same
pub record LaterInPush (w v : World) : Type 0 where
  pub set_up : SameSetUp w.state v.state
  pub goes : Goes w v
  pub bytes : Bytes w.slots → Bytes v.slots
  pub stands : (k : ℕ) → k < w.state.numbers → is_free (entry_of w.books k) ≡ false → Stands w v k
  pub pool : PoolStays w v

pub record TakesPart (w : World) (b : Batch) (from n : ℕ) (v : World) : Type 0 where
  pub holding : Holding v (λ c. v.state.buffered.0)
  pub along : LaterInPush w v
  pub buffered : v.state.buffered.0 ≡ w.state.buffered.0 + n
  pub batches : queued_batches v ≡ queued_batches w
  pub rows : buffered_rows v ≡ buffered_rows w ++ batch_part w b from n
  pub spared : Spared v (λ c. v.state.buffered.0)
