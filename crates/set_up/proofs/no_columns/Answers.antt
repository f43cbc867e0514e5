-- `set_up::no_columns` meets its contract.
use borrow.Author.Rules.{rules}
use Rattle.set_up.specs.SetUpLaws.{columns_fresh}
use Rattle.set_up.proofs.no_columns.Goals as goal

pub returns : goal.returns
returns c = search (columns_fresh, rules)
