-- `trial::try_part` meets its contract.
use mathlib.Core.Path.{refl}
use native.Mathlib.Omega.{arith}
use Rattle.trial_truth.specs.TellLaws.{tells_copied}
use Rattle.trial_truth.specs.PartLaws.{to_none, to-more, part_stops, part_tells}
use Rattle.trial.specs.PartLaws.{record_asks, column_in_lem, column_asks, part_refused, part_done}
use Rattle.trial_column.specs.TryingLaws.{trying_bounds, column-none, column_trans, tries_length}
use Rattle.trial.proofs.try_part.Goals as goal

pub loop-c-init : goal.loop-c-init
loop-c-init c = ((trying_bounds c.requires.0).columns, refl, column-none c.requires.0, to_none)

pub record_at-r-requires : goal.record_at-r-requires
record_at-r-requires c = record_asks c.args.from c.args.n.0 c.requires.1 c.loop-c.invariant.2 c.loop-c-test.true

pub loop-c-preserved-in-Copied : goal.loop-c-preserved-in-Copied
loop-c-preserved-in-Copied c = (c.loop-c.invariant.0, c.loop-c.invariant.1, c.loop-c.invariant.2, to-more c.loop-c.invariant.3 c.loop-c.invariant.2.tries.set_up c.loop-c-test.true c.record_at-r.ensures (tells_copied c.in-Copied.is) refl)

pub try_column-step-requires : goal.try_column-step-requires
try_column-step-requires c = (
  c.loop-c.invariant.2.tries.trying,
  column_in_lem c.args.from c.args.n.0 c.requires.1 c.loop-c.invariant.2 c.loop-c-test.true,
  column_asks c.args.from c.args.n.0 c.requires.1 c.loop-c.invariant.2 c.loop-c-test.true c.record_at-r.ensures refl,
)

pub loop-c-preserved : goal.loop-c-preserved
loop-c-preserved c = (c.loop-c.invariant.0, tries_length (column_trans c.loop-c.invariant.2 c.try_column-step.ensures.0).tries, column_trans c.loop-c.invariant.2 c.try_column-step.ensures.0, to-more c.loop-c.invariant.3 c.loop-c.invariant.2.tries.set_up c.loop-c-test.true c.record_at-r.ensures c.try_column-step.ensures.1 c.if-step-ne0.false)

pub returns-then-step-ne0 : goal.returns-then-step-ne0
returns-then-step-ne0 c = (part_refused c.args.n.0 c.loop-c.invariant.2 c.try_column-step.ensures.0 c.if-step-ne0.true, part_stops c.loop-c.invariant.3 c.loop-c.invariant.2.tries.set_up c.loop-c-test.true c.record_at-r.ensures c.try_column-step.ensures.1 c.if-step-ne0.true)

pub returns : goal.returns
returns c = (part_done c.args.n.0 c.loop-c.invariant.2, part_tells c.loop-c.invariant.3 (omega (arith, c.loop-c-test.false)) c.loop-c.invariant.2.buffered)
