-- `crossing::copy_front` meets its contract.
use Rattle.crossing.specs.CrossLaws.{front-laid}
use borrow.Author.Rules.{rules}
use Rattle.crossing.proofs.copy_front.Goals as goal

pub returns : goal.returns
returns c = search (front-laid, rules)
