-- `steps::coalesce_rows` meets its contract: what its loops keep.
use Prim.Native.Nat.{◌≤◌, ◌-◌}
use mathlib.Core.Path.{◌≡◌}
use lib.ListN.{length}
use Rattle.state.specs.World.{world}
use Rattle.rules.specs.Batch.{batch}
use Rattle.steps.specs.CutLaws.{CutTo}
use Rattle.steps.proofs.coalesce_rows.Given as goal

abbrev pub invariant-loop-t : goal.invariant-loop-t
invariant-loop-t l = (l.rows.0 ≤ 65536) × (length l.slots ≡ length l.initial.slots) × (length l.pool ≡ length l.initial.pool) × (length l.books ≡ length l.initial.books) × (CutTo (world l.initial.t l.initial.slots l.initial.pool l.initial.books) (batch l.rows.0 l.records l.body) l.from (world l.t l.slots l.pool l.books))

abbrev pub decreases-loop-t : goal.decreases-loop-t
decreases-loop-t l = l.rows.0 - l.from
