-- `layout::columns_bytes` meets its contract: what its loops keep.
use Prim.Native.Nat.{◌≤◌, ◌*◌}
use mathlib.Core.Path.{◌≡◌}
use Rattle.state.specs.Layout.{columns_bytes}
use Rattle.layout.proofs.columns_bytes.Given as goal

abbrev pub invariant-loop-i : goal.invariant-loop-i
invariant-loop-i l = (l.sum ≤ 2109440 * l.i) × (l.sum ≡ columns_bytes l.s l.i)
