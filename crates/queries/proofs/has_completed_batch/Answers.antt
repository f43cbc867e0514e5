-- `queries::has_completed_batch` meets its contract.
use borrow.Author.Rules.{rules}
use Rattle.queries.specs.QueryLaws.{completed_is}
use Rattle.queries.proofs.has_completed_batch.Goals as goal

pub returns : goal.returns
returns c = search (completed_is, rules)
