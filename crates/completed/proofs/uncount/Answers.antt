-- `completed::uncount` meets its contract.
use borrow.Author.Rules.{rules}
use Rattle.completed.specs.DropLaws.{counts_none, counts_more, counts_all}
use Rattle.completed.proofs.uncount.Goals as goal

pub loop-k-init : goal.loop-k-init
loop-k-init c = search (counts_none, rules)

pub loop-k-preserved : goal.loop-k-preserved
loop-k-preserved c = search (counts_more, rules)

pub returns : goal.returns
returns c = search (counts_all, rules)
