-- `byte_view::walk` meets its contract: what its loops keep.
use Prim.Native.Nat.{◌≤◌}
use Rattle.byte_view.specs.WalkLaws.{Walking}
use Rattle.byte_view.proofs.walk.Given as goal

abbrev pub invariant-loop-i : goal.invariant-loop-i
invariant-loop-i l = (l.left ≤ l.rest.0) × Walking l.body l.at l.rest.0 l.left l.i
