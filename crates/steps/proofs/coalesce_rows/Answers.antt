-- `steps::coalesce_rows` meets its contract.
use mathlib.Core.Path.{refl}
use borrow.Author.Rules.{rules}
use Rattle.steps.specs.CutLaws.{cut_rows, cut_none, full_asks, last_asks, cut_last, cut_stop, cut_more}
use Rattle.steps.proofs.coalesce_rows.Goals as goal

pub loop-t-init : goal.loop-t-init
loop-t-init c = (search (cut_rows, rules), refl, refl, refl, search (cut_none, rules))

pub copy_and_finish-step-requires : goal.copy_and_finish-step-requires
copy_and_finish-step-requires c = full_asks c.requires c.loop-t.invariant.4 c.loop-t-test.true

pub returns-then-step-ne0 : goal.returns-then-step-ne0
returns-then-step-ne0 c = cut_stop c.requires c.loop-t.invariant.4 c.loop-t-test.true c.copy_and_finish-step.ensures c.if-step-ne0.true

pub loop-t-preserved : goal.loop-t-preserved
loop-t-preserved c = (c.loop-t.invariant.0, search (c.copy_and_finish-step.auto.slots, c.loop-t.invariant.1, rules), search (c.copy_and_finish-step.auto.pool, c.loop-t.invariant.2, rules), search (c.copy_and_finish-step.auto.books, c.loop-t.invariant.3, rules), cut_more c.requires c.loop-t.invariant.4 c.loop-t-test.true c.copy_and_finish-step.ensures c.if-step-ne0.false)

pub copy_and_finish-requires : goal.copy_and_finish-requires
copy_and_finish-requires c = search (last_asks, rules)

pub returns : goal.returns
returns c = cut_last c.requires c.loop-t.invariant.4 c.loop-t-test.false c.copy_and_finish.ensures
