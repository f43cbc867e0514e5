-- `trial::try_first` meets its contract.
use Rattle.trial_truth.specs.StandLaws.{whole_tells, first_follows, first_stops}
use Rattle.trial.specs.PartLaws.{first_asks}
use Rattle.trial_column.specs.TryingLaws.{trying_few, trying_place}
use Rattle.trial.proofs.try_first.Goals as goal

pub try_finish-step-requires : goal.try_finish-step-requires
try_finish-step-requires c = (trying_few c.requires.0, trying_place c.requires.0)

pub try_whole-requires : goal.try_whole-requires
try_whole-requires c = first_asks c.args.records.now c.try_finish-step.ensures.0 c.requires.0 c.requires.1

pub returns-then-step-eq0 : goal.returns-then-step-eq0
returns-then-step-eq0 c = first_follows c.try_finish-step.ensures.1 c.if-step-eq0.true (whole_tells _ _ _ c.try_whole.ensures)

pub returns-else-step-eq0 : goal.returns-else-step-eq0
returns-else-step-eq0 c = first_stops c.try_finish-step.ensures.1 c.if-step-eq0.false
