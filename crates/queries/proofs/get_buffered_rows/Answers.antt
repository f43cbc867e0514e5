-- `queries::get_buffered_rows` meets its contract.
use borrow.Author.Rules.{rules}
use Rattle.queries.specs.QueryLaws.{buffered_is}
use Rattle.queries.proofs.get_buffered_rows.Goals as goal

pub returns : goal.returns
returns c = search (buffered_is, rules)
