-- Letting go and registering: books and pool change, and every row reads as it did, even where the caller lets its buffer go.
use Rattle.std.specs.Prelude.{ℕ, ◌≡◌, List}
use Rattle.std.proofs.Math.Bool.{true}
use Rattle.words.specs.WordLaws.{Bytes}
use Rattle.sound.specs.Sound.{filled_bytes}
use Rattle.pool.specs.Register.{is_held}
use Rattle.state.specs.World.{World}
use Rattle.state.specs.Rows.{queued_batches, buffered_rows}
use Rattle.invariant.specs.Holding.{Between}
use Rattle.std.specs.Prelude.{Result, Ok, Err}
use Rattle.counts.specs.declared.BufferNumber.{BufferNumber}

-- the same state: between calls still, with the rows that there were
pub record SameRows (w v : World) : Type 0 where
  pub between : Between v
  pub batches : queued_batches v ≡ queued_batches w
  pub rows : buffered_rows v ≡ buffered_rows w
  pub bytes : Bytes w.slots → Bytes v.slots

-- the caller holds number k, and it is filled with the bytes
pub record NewlyHeld (pool books bytes : List ℕ) (k : ℕ) : Type 0 where
  pub held : is_held books k ≡ true
  pub filled : filled_bytes books pool k ≡ bytes

-- the number that registering answered
abbrev pub number_of : Result BufferNumber ℕ → ℕ
number_of (Ok k) = k.0
number_of (Err n) = 0
