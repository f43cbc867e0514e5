-- `encoding::set_limit` meets its contract.
use borrow.Author.Rules.{rules}
use Rattle.codes.specs.PutLaws.{limited-rows, limited_unset, limited-take}
use Rattle.encoding.proofs.set_limit.Goals as goal

pub returns-in-Some : goal.returns-in-Some
returns-in-Some c = (search (limited-rows, rules), search (limited-take, limited-rows, rules))

pub returns-in-None : goal.returns-in-None
returns-in-None c = (search (limited_unset, rules), search (limited-take, limited_unset, rules))
