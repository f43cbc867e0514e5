-- `completed::drop_lists` meets its contract.
use borrow.Author.Rules.{rules}
use Rattle.completed.specs.DropLaws.{droppable_next, lists_none, lists_more, lists_all}
use Rattle.completed.proofs.drop_lists.Goals as goal

pub loop-c-init : goal.loop-c-init
loop-c-init c = search (lists_none, rules)

pub loop-c-preserved : goal.loop-c-preserved
loop-c-preserved c = search (droppable_next, lists_more, rules)

pub returns : goal.returns
returns c = search (lists_all, rules)
