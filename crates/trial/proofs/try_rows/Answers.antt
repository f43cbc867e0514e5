-- `trial::try_rows` meets its contract.
use mathlib.Core.Path.{refl}
use native.Mathlib.Omega.{arith}
use Rattle.trial_truth.specs.CutLaws.{cut_first, cut_more, cut_stops, cut_last}
use Rattle.trial.specs.PartLaws.{triable_full, triable_last, turn-done, turn_below, turn_marks}
use Rattle.trial_column.specs.TryingLaws.{trying_bounds, tries_none, tries_length}
use Rattle.trial.proofs.try_rows.Goals as goal

pub loop-t-init : goal.loop-t-init
loop-t-init c = (omega arith, c.requires.2, refl, tries_none c.requires.0, cut_first _ _ _ _)

pub try_and_finish-step-requires : goal.try_and_finish-step-requires
try_and_finish-step-requires c = (
  c.loop-t.invariant.3.trying,
  triable_full c.loop-t.invariant.3 c.requires.1 c.loop-t.from c.loop-t-test.true,
  omega (arith, (trying_bounds c.loop-t.invariant.3.trying).target, (trying_bounds c.loop-t.invariant.3.trying).rows, c.loop-t.invariant.1),
)

pub returns-then-step-ne0 : goal.returns-then-step-ne0
returns-then-step-ne0 c = (turn_marks c.loop-t.invariant.3 c.try_and_finish-step.ensures.0, cut_stops c.loop-t.invariant.4 c.loop-t-test.true c.loop-t.invariant.1 c.try_and_finish-step.ensures.1 c.if-step-ne0.true)

pub loop-t-preserved : goal.loop-t-preserved
loop-t-preserved c = (omega (arith, c.loop-t-test.true, c.loop-t.invariant.0), turn_below c.loop-t.invariant.1 c.try_and_finish-step.ensures.0 c.if-step-ne0.false, tries_length (turn-done c.loop-t.invariant.3 c.try_and_finish-step.ensures.0), turn-done c.loop-t.invariant.3 c.try_and_finish-step.ensures.0, cut_more c.loop-t.invariant.4 c.loop-t-test.true c.loop-t.invariant.1 c.try_and_finish-step.ensures.1 c.try_and_finish-step.ensures.0.tries.set_up c.if-step-ne0.false)

pub try_and_finish-requires : goal.try_and_finish-requires
try_and_finish-requires c = (
  c.loop-t.invariant.3.trying,
  triable_last c.loop-t.invariant.3 c.requires.1 c.loop-t.invariant.0,
  omega (arith, (trying_bounds c.loop-t.invariant.3.trying).target, (trying_bounds c.loop-t.invariant.3.trying).rows, c.loop-t.invariant.1, c.loop-t-test.false),
)

pub returns : goal.returns
returns c = (turn_marks c.loop-t.invariant.3 c.try_and_finish.ensures.0, cut_last c.loop-t.invariant.4 c.loop-t.invariant.0 c.loop-t-test.false c.try_and_finish.ensures.1)
