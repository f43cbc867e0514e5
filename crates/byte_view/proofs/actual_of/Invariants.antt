-- `byte_view::actual_of` meets its contract: what its loops keep.
use Prim.Native.Nat.{◌≤◌, ◌*◌}
use mathlib.Core.Path.{◌≡◌}
use Rattle.byte_view.specs.Copying.{capacities}
use Rattle.byte_view.proofs.actual_of.Given as goal

abbrev pub invariant-loop-i : goal.invariant-loop-i
invariant-loop-i l = (l.sum ≤ l.i * 4294967295) × (l.sum ≡ capacities l.books l.body l.list l.i)
