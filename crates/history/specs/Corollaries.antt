-- What follows of every history: no row is shown twice, a queued row rests until its batch is dropped, no batch overtakes rows pushed before it.
use Rattle.std.specs.Prelude.{ℕ, zero, suc, ◌+◌, ◌≡◌, length, get_or}
use mathlib.Core.List.{List, [], ◌∷◌, ◌++◌}
use Rattle.state.specs.World.{World}
use Rattle.state.specs.Rows.{Row, joined, queued_batches, buffered_rows}
use Rattle.rules.specs.Batch.{Batch, batch_rows}

-- row n of rows, and batch k of batches
abbrev pub row_at : List Row → ℕ → Row
row_at rows n = get_or rows n []

abbrev pub batch_at : List (List Row) → ℕ → List Row
batch_at batches k = get_or batches k []

-- the rows before batch k
unfoldable pub before : List (List Row) → ℕ → ℕ
before batches zero = 0
before [] (suc k) = 0
before (b ∷ bs) (suc k) = length b + before bs k

-- an accepted push, large or not: batches are made behind those queued, and the rows that were buffered come before those of the batch
pub record Behind (w : World) (b : Batch) (v : World) : Type 0 where
  pub made : List (List Row)
  pub batches : queued_batches v ≡ queued_batches w ++ made
  pub rows : joined made ++ buffered_rows v ≡ buffered_rows w ++ batch_rows w b
