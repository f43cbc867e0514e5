-- `checks::batch_fault` meets its contract: what its loops keep.
use Rattle.search.specs.First.{Passed}
use Rattle.checks.specs.Checked.{faulty_at}
use Rattle.checks.proofs.batch_fault.Given as goal

abbrev pub invariant-loop-c : goal.invariant-loop-c
invariant-loop-c l = Passed (faulty_at l.s l.pool l.books l.records l.body l.rows.0) l.c
