-- `trial::try_rows` meets its contract: what its loops keep.
use Prim.Native.Nat.{◌≤◌, ◌-◌, ◌<◌}
use mathlib.Core.Path.{◌≡◌}
use lib.ListN.{length}
use Rattle.rules.specs.Batch.{batch}
use Rattle.trial_truth.specs.Tells.{TellsCut}
use Rattle.trial_column.specs.Trying.{Tries}
use Rattle.trial.proofs.try_rows.Given as goal

abbrev pub invariant-loop-t : goal.invariant-loop-t
invariant-loop-t l = (l.from ≤ l.rows.0) × (l.t.buffered.0 < l.t.target.0) × (length l.books ≡ length l.initial.books) × (Tries l.initial.t l.initial.books l.t l.books) × (TellsCut l.initial.t l.initial.books l.sources (batch l.rows.0 l.records l.body) l.from l.t l.books)

abbrev pub decreases-loop-t : goal.decreases-loop-t
decreases-loop-t l = l.rows.0 - l.from
