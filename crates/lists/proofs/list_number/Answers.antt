-- `lists::list_number` meets its contract.
use borrow.Author.Rules.{rules}
use Rattle.lists.specs.NumberLaws.{number_room, number_put, number_counted}
use Rattle.lists.proofs.list_number.Goals as goal

pub put32-requires : goal.put32-requires
put32-requires c = search (number_room, rules)

pub returns : goal.returns
returns c = (search (number_put, rules), search (number_counted, rules))
