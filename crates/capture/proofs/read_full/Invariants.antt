-- `capture::read_full` meets its contract: what its loops keep.
use lib.ListN.{length}
use mathlib.Core.Path.{◌≡◌}
use Prim.Native.Nat.{◌≤◌, ◌-◌}
use Rattle.capture.proofs.read_full.Given as goal

abbrev pub invariant-loop-count : goal.invariant-loop-count
invariant-loop-count _ l = (l.count ≤ length l.s) × (length l.s ≡ length l.initial.s)

abbrev pub decreases-loop-count : goal.decreases-loop-count
decreases-loop-count _ l = length l.s - l.count
