-- `trial::try_finish` meets its contract.
use Rattle.trial_truth.specs.FinishLaws.{tells_idle, tells_queued, tells_nine}
use Rattle.trial.specs.CloseLaws.{finish_none, finish_nine, finish_queues, closes_place, closes_queued, closes_few}
use Rattle.trial.proofs.try_finish.Goals as goal

pub next_to_fill-u-requires : goal.next_to_fill-u-requires
next_to_fill-u-requires c = (closes_few c.close_all-t.ensures.0 c.requires.0, closes_place c.close_all-t.ensures.0 c.requires.1, closes_queued c.close_all-t.ensures.0 c.if-s.true)

pub returns-then-s-eq0 : goal.returns-then-s-eq0
returns-then-s-eq0 c = (finish_none c.if-s-eq0.true, tells_idle _ c.if-s-eq0.true)

pub returns-then-s : goal.returns-then-s
returns-then-s c = (finish_queues c.if-s.true c.close_all-t.ensures.0 c.next_to_fill-u.ensures, tells_queued c.if-s-eq0.false c.if-s.true c.close_all-t.ensures.1 c.next_to_fill-u.ensures)

pub returns-else-s : goal.returns-else-s
returns-else-s c = (finish_nine _, tells_nine _ c.if-s-eq0.false c.if-s.false)
