-- `column_checks::buffer_of` meets its contract.
use borrow.Author.Rules.{rules}
use Rattle.column_checks.specs.RowLaws.{buffer_is}
use Rattle.column_checks.proofs.buffer_of.Goals as goal

pub returns : goal.returns
returns c = search (buffer_is, rules)
