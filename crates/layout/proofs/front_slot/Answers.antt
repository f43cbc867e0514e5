-- `layout::front_slot` meets its contract.
use borrow.Author.Rules.{rules}
use Rattle.layout.specs.ExitLaws.{front_is}
use Rattle.layout.proofs.front_slot.Goals as goal

pub returns : goal.returns
returns c = (search (front_is, rules), search rules)
