-- `queries::biggest_coalesce_batch_size` meets its contract.
use borrow.Author.Rules.{rules}
use Rattle.queries.specs.QueryLaws.{limit_is}
use Rattle.queries.proofs.biggest_coalesce_batch_size.Goals as goal

pub returns : goal.returns
returns c = search (limit_is, rules)
