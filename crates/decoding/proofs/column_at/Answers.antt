-- `decoding::column_at` meets its contract.
use borrow.Author.Rules.{rules}
use Rattle.decoding.specs.ReadLaws.{column_is}
use Rattle.decoding.proofs.column_at.Goals as goal

pub returns : goal.returns
returns c = search (column_is, rules)
