-- `trial::close_all` meets its contract.
use mathlib.Core.Path.{refl}
use native.Mathlib.Omega.{arith}
use borrow.Author.Rules.{rules}
use Rattle.trial_truth.specs.FinishLaws.{closed_none, closed-more, closed_all}
use Rattle.trial.specs.CloseLaws.{closes_none, closes_more, closes_all, close_plain}
use Rattle.trial.proofs.close_all.Goals as goal

pub loop-c-init : goal.loop-c-init
loop-c-init c = (search (closes_none, rules), closed_none _)

pub loop-c-preserved : goal.loop-c-preserved
loop-c-preserved c = (closes_more _ c.loop-c.invariant.0 c.close_one-t.ensures, closed-more _ _ c.loop-c.invariant.1 c.close_one-t.ensures)

pub loop-c-preserved-then-not-is_view : goal.loop-c-preserved-then-not-is_view
loop-c-preserved-then-not-is_view c =
    let same = close_plain _ c.loop-c.invariant.0 c.if-not-is_view.ensures refl in
    (closes_more _ c.loop-c.invariant.0 same, closed-more _ _ c.loop-c.invariant.1 same)

pub returns : goal.returns
returns c = (search (closes_all, rules), closed_all _ _ c.loop-c.invariant.1 (omega arith) c.loop-c-test.false)
