-- `whole::finish_first` meets its contract.
use borrow.Author.Rules.{rules}
use Rattle.whole.specs.QueueLaws.{asks_closable, first_asks, first_done, first_stop}
use Rattle.whole.proofs.finish_first.Goals as goal

pub finish-step-requires : goal.finish-step-requires
finish-step-requires c = search (asks_closable, rules)

pub queue_whole-requires : goal.queue_whole-requires
queue_whole-requires c = search (first_asks, rules)

pub returns-then-step-eq0 : goal.returns-then-step-eq0
returns-then-step-eq0 c = search (first_done, rules)

pub returns-else-step-eq0 : goal.returns-else-step-eq0
returns-else-step-eq0 c = search (first_stop, rules)
