-- `layout::width_of` meets its contract.
use borrow.Author.Rules.{rules}
use Rattle.layout.specs.ExitLaws.{width_is}
use Rattle.layout.proofs.width_of.Goals as goal

pub returns : goal.returns
returns c = (search (width_is, rules), search rules)
