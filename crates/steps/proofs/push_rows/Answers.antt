-- `steps::push_rows` meets its contract.
use borrow.Author.Rules.{rules}
use Rattle.steps.specs.PushLaws.{push_asks, push_cutting, push_on, push_whole, push_first}
use Rattle.steps.proofs.push_rows.Goals as goal

pub coalesce_rows-requires : goal.coalesce_rows-requires
coalesce_rows-requires c = search (push_cutting, rules)

pub queue_whole-requires : goal.queue_whole-requires
queue_whole-requires c = search (push_asks, rules)

pub finish_first-requires : goal.finish_first-requires
finish_first-requires c = search (push_asks, rules)

pub returns-in-Coalesce : goal.returns-in-Coalesce
returns-in-Coalesce c = search (push_on, rules)

pub returns-in-Whole : goal.returns-in-Whole
returns-in-Whole c = search (push_whole, rules)

pub returns-in-FinishFirst : goal.returns-in-FinishFirst
returns-in-FinishFirst c = search (push_first, rules)
