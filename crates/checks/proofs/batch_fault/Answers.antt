-- `checks::batch_fault` meets its contract.
use borrow.Author.Rules.{rules}
use Rattle.std.proofs.lemmas.Result.{err_from_is_err_and}
use Rattle.checks.specs.BatchLaws.{wrong_records, many_rows, faulty_none, faulty_more, faulty_at_lem, faulty_all}
use Rattle.layout.specs.ExitLaws.{column_is}
use Rattle.checks.proofs.batch_fault.Goals as goal

pub returns-then-records-s : goal.returns-then-records-s
returns-then-records-s c = search (wrong_records, rules)

pub returns-then-s-rows : goal.returns-then-s-rows
returns-then-s-rows c = search (many_rows, rules)

pub loop-c-init : goal.loop-c-init
loop-c-init c = search (faulty_none, rules)

pub column_fault-requires : goal.column_fault-requires
column_fault-requires c = (search rules, search rules, search rules, search rules, search rules, column_is _ _)

pub loop-c-preserved : goal.loop-c-preserved
loop-c-preserved c = faulty_more _ _ _ _ _ _ c.loop-c.invariant c.in_ok-column_fault.ensures

pub returns-in_err-column_fault : goal.returns-in_err-column_fault
returns-in_err-column_fault c =
    let p = err_from_is_err_and c.from_residual.result c.from_residual.ensures.1 in
    rw (p.1, p.2)
    (faulty_at_lem _ _ _ _ _ _ c.if-records-s.false c.if-s-rows.false c.loop-c.invariant c.loop-c-test.true c.in_err-column_fault.ensures)

pub returns : goal.returns
returns c = search (faulty_all, rules)
