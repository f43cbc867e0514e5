-- `column_checks::bad_row` meets its contract: what its loops keep.
use Rattle.search.specs.First.{Passed}
use Rattle.column_checks.specs.Tested.{bad_at}
use Rattle.column_checks.proofs.bad_row.Given as goal

abbrev pub invariant-loop-i : goal.invariant-loop-i
invariant-loop-i l = Passed (bad_at l.books l.pool l.body l.r) l.i
