-- `columns::with_column` meets its contract.
use borrow.Author.Rules.{rules}
use Rattle.columns.specs.ExitLaws.{kept_kind}
use Rattle.columns.proofs.with_column.Goals as goal

pub returns : goal.returns
returns c = search (kept_kind, rules)
