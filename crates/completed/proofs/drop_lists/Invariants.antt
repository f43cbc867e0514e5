-- `completed::drop_lists` meets its contract: what its loops keep.
use mathlib.Core.Path.{◌≡◌}
use lib.ListN.{length}
use Rattle.completed.specs.Drop.{lists_off, Droppable}
use Rattle.completed.proofs.drop_lists.Given as goal

abbrev pub invariant-loop-c : goal.invariant-loop-c
invariant-loop-c l = (length l.books ≡ length l.initial.books) × Droppable l.s l.slots l.books l.slot × (l.books ≡ lists_off l.s l.slots l.initial.books l.slot l.c)
