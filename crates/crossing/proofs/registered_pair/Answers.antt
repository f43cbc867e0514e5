-- `crossing::registered_pair` meets its contract.
use Rattle.crossing.specs.CrossLaws.{registered-number, registered-refused}
use borrow.Author.Rules.{rules}
use Rattle.crossing.proofs.registered_pair.Goals as goal

pub returns-in-Ok : goal.returns-in-Ok
returns-in-Ok c = search (registered-number, rules)

pub returns-in-Err : goal.returns-in-Err
returns-in-Err c = search (registered-refused, rules)
