-- `gaps::sweep` meets its contract: what its loop keeps.
use Prim.Native.Nat.{◌<◌, ◌^◌}
use mathlib.Core.Path.{◌≡◌}
use Rattle.books.specs.Search.{swept}
use Rattle.gaps.proofs.sweep.Given as goal

abbrev pub invariant-loop-i : goal.invariant-loop-i
invariant-loop-i l = (l.next < 2 ^ 33) × (l.next ≡ swept l.books l.size.0 l.at l.i)
