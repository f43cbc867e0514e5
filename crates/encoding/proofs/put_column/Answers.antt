-- `encoding::put_column` meets its contract.
use borrow.Author.Rules.{rules}
use Rattle.codes.specs.PutLaws.{column-put}
use Rattle.encoding.proofs.put_column.Goals as goal

pub returns : goal.returns
returns c = search (column-put, rules)
