-- `blocks::grow` meets its contract: what its loops keep.
use Prim.Native.Nat.{◌≤◌, ◌<◌, ◌-◌}
use mathlib.Core.Path.{◌≡◌}
use Rattle.blocks.specs.Block.{grown}
use Rattle.blocks.proofs.grow.Given as goal

abbrev pub invariant-loop-s : goal.invariant-loop-s
invariant-loop-s l = (1 ≤ l.s) × (l.s < 4294967296) × (grown l.initial.s l.min.0 ≡ grown l.s l.min.0)

abbrev pub decreases-loop-s : goal.decreases-loop-s
decreases-loop-s l = 2097152 - l.s
