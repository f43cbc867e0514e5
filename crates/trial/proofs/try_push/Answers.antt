-- `trial::try_push` meets its contract.
use native.Mathlib.Omega.{arith}
use Rattle.trial_truth.specs.StandLaws.{whole_tells, push_coalesces, push_whole, push_first}
use Rattle.trial.specs.PartLaws.{whole_asks}
use Rattle.trial_column.specs.TryingLaws.{trying_bounds, tries_none}
use Rattle.trial.proofs.try_push.Goals as goal

pub try_whole-requires : goal.try_whole-requires
try_whole-requires c = whole_asks c.args.records.now c.requires.0 c.requires.1.records_are

pub returns-in-Coalesce : goal.returns-in-Coalesce
returns-in-Coalesce c = (c.try_rows.ensures.0, push_coalesces c.route_of-route.ensures c.in-Coalesce.is c.try_rows.ensures.1)

pub returns-in-Whole : goal.returns-in-Whole
returns-in-Whole c = ((tries_none c.requires.0).marks, push_whole c.route_of-route.ensures c.in-Whole.is (whole_tells _ _ _ c.try_whole.ensures))

pub returns-in-FinishFirst : goal.returns-in-FinishFirst
returns-in-FinishFirst c = ((tries_none c.requires.0).marks, push_first c.route_of-route.ensures (omega (arith, c.requires.2, (trying_bounds c.requires.0).target, (trying_bounds c.requires.0).rows)) c.in-FinishFirst.is c.try_first.ensures)
