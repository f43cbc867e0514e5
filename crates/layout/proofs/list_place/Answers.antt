-- `layout::list_place` meets its contract.
use borrow.Author.Rules.{rules}
use Rattle.layout.specs.ExitLaws.{list_place_is}
use Rattle.layout.proofs.list_place.Goals as goal

pub returns : goal.returns
returns c = (search (list_place_is, rules), search rules)
