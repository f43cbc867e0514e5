-- `set_up::fresh_column` meets its contract.
use borrow.Author.Rules.{rules}
use Rattle.set_up.specs.SetUpLaws.{column-fresh}
use Rattle.set_up.proofs.fresh_column.Goals as goal

pub returns : goal.returns
returns c = search (column-fresh, rules)
