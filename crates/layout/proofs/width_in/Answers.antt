-- `layout::width_in` meets its contract.
use borrow.Author.Rules.{rules}
use Rattle.layout.specs.ExitLaws.{kind_some, kind_small, kind_none}
use Rattle.layout.proofs.width_in.Goals as goal

pub returns-in-Some : goal.returns-in-Some
returns-in-Some c = (search (kind_some, rules), search (kind_small, rules))

pub returns-in-None : goal.returns-in-None
returns-in-None c = (search (kind_none, rules), search rules)
