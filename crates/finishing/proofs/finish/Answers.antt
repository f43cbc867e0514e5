-- `finishing::finish` meets its contract.
use borrow.Author.Rules.{rules}
use Rattle.finishing.specs.FinishLaws.{finish_none, finish_nine, finish_queues, finish_asks}
use Rattle.finishing.proofs.finish.Goals as goal

pub queue_slot-u-requires : goal.queue_slot-u-requires
queue_slot-u-requires c = finish_asks c.requires c.close_all-t.ensures (search rules)

pub returns-then-s-eq0 : goal.returns-then-s-eq0
returns-then-s-eq0 c = search (finish_none, rules)

pub returns-then-s : goal.returns-then-s
returns-then-s c = search (finish_queues, rules)

pub returns-else-s : goal.returns-else-s
returns-else-s c = search (finish_nine, rules)
