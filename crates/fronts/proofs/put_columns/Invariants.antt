-- `fronts::put_columns` meets its contract: what its loops keep.
use Prim.Native.Nat.{◌+◌, ◌*◌, ◌≤◌}
use mathlib.Core.Path.{◌≡◌}
use mathlib.Core.List.{[]}
use lib.ListN.{length}
use Rattle.state.specs.World.{world}
use Rattle.state.specs.Layout.{values_place}
use Rattle.fronts.specs.Front.{columns_put}
use Rattle.fronts.proofs.put_columns.Given as goal

abbrev pub invariant-loop-c : goal.invariant-loop-c
invariant-loop-c l = (l.out ≡ columns_put (world l.s l.slots [] l.books) l.initial.out l.c) × (length l.out ≡ length l.initial.out) × (l.place ≡ values_place l.s l.slot l.c) × (l.place ≤ 35000000000 + 2109440 * l.c)
