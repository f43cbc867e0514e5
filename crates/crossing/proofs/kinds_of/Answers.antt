-- `crossing::kinds_of` meets its contract.
use borrow.Author.Rules.{rules}
use Rattle.crossing.specs.CrossLaws.{kinds-none, kinds-more}
use Rattle.crossing.proofs.kinds_of.Goals as goal

pub loop-c-init : goal.loop-c-init
loop-c-init c = (search rules, search (kinds-none, rules))

pub loop-c-preserved : goal.loop-c-preserved
loop-c-preserved c = (search rules, search (kinds-more, rules))
