-- `whole::queue_whole` meets its contract.
use borrow.Author.Rules.{rules}
use Rattle.whole.specs.QueueLaws.{asks_few, asks_place, asks_whole, whole_stop, whole-fits, whole_queued, whole_length, whole-done}
use Rattle.whole.proofs.queue_whole.Goals as goal

pub try_whole-number-requires : goal.try_whole-number-requires
try_whole-number-requires c = search (asks_whole, rules)

pub copy_columns-requires : goal.copy_columns-requires
copy_columns-requires c = search (whole-fits, rules)

pub queue_slot-t-requires : goal.queue_slot-t-requires
queue_slot-t-requires c = (search (asks_few, rules), search (asks_place, rules), search (whole_queued, rules), whole_length c.requires c.copy_columns.ensures)

pub returns-then-number-eq0 : goal.returns-then-number-eq0
returns-then-number-eq0 c = search (whole-done, rules)

pub returns-else-number-eq0 : goal.returns-else-number-eq0
returns-else-number-eq0 c = search (whole_stop, rules)
