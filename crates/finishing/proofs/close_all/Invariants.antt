-- `finishing::close_all` meets its contract: what its loops keep.
use Prim.Native.Nat.{◌≤◌}
use mathlib.Core.Path.{◌≡◌}
use lib.ListN.{length}
use Rattle.finishing.specs.Finish.{ClosesAll}
use Rattle.finishing.proofs.close_all.Given as goal

abbrev pub invariant-loop-c : goal.invariant-loop-c
invariant-loop-c l = (l.s.columns ≤ 16) × (length l.slots ≡ length l.initial.slots) × (length l.books ≡ length l.initial.books) × (ClosesAll l.s l.initial.slots l.initial.books l.c l.t l.slots l.books)
