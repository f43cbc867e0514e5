-- `crossing::limit_pair` meets its contract.
use Rattle.crossing.specs.CrossLaws.{limit_rows, limit_unset}
use borrow.Author.Rules.{rules}
use Rattle.crossing.proofs.limit_pair.Goals as goal

pub returns-in-Some : goal.returns-in-Some
returns-in-Some c = search (limit_rows, rules)

pub returns-in-None : goal.returns-in-None
returns-in-None c = search (limit_unset, rules)
