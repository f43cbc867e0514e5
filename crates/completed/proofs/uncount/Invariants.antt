-- `completed::uncount` meets its contract: what its loops keep.
use mathlib.Core.Path.{◌≡◌}
use lib.ListN.{length}
use Rattle.layout.specs.Few.{Few}
use Rattle.state.specs.Layout.{books_length}
use Rattle.completed.specs.Drop.{counts_off}
use Rattle.completed.proofs.uncount.Given as goal

abbrev pub invariant-loop-k : goal.invariant-loop-k
invariant-loop-k l = Few l.s × (length l.books ≡ length l.initial.books) × (length l.initial.books ≡ books_length l.s) × (l.books ≡ counts_off l.s l.initial.books l.slot l.k)
