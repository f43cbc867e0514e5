-- `trial::try_and_finish` meets its contract.
use Rattle.trial_truth.specs.CutLaws.{then_follows, then_ends, then_stops}
use Rattle.trial.specs.PartLaws.{then_done, then_room, then_refused}
use Rattle.trial_column.specs.TryingLaws.{trying_bounds, trying_few, trying_place}
use Rattle.trial.proofs.try_and_finish.Goals as goal

pub try_finish-requires : goal.try_finish-requires
try_finish-requires c = (trying_few c.try_part-step.ensures.0.tries.trying, trying_place c.try_part-step.ensures.0.tries.trying)

pub returns-then-t-s : goal.returns-then-t-s
returns-then-t-s c = (then_done c.try_part-step.ensures.0 c.try_finish.ensures.0, then_follows c.try_part-step.ensures.1 c.if-step-eq0.true (c.try_part-step.ensures.0.buffered c.if-step-eq0.true) c.try_part-step.ensures.0.tries.set_up c.requires.2 c.if-t-s.true (trying_bounds c.requires.0).target_some c.try_finish.ensures.1)

pub returns-else-t-s : goal.returns-else-t-s
returns-else-t-s c = (then_room c.try_part-step.ensures.0 c.if-t-s.false, then_ends c.try_part-step.ensures.1 c.if-step-eq0.true (c.try_part-step.ensures.0.buffered c.if-step-eq0.true) c.try_part-step.ensures.0.tries.set_up c.if-t-s.false)

pub returns-else-step-eq0 : goal.returns-else-step-eq0
returns-else-step-eq0 c = (then_refused c.try_part-step.ensures.0 c.if-step-eq0.false, then_stops c.try_part-step.ensures.1 c.if-step-eq0.false)
