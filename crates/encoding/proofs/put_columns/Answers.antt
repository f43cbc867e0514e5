-- `encoding::put_columns` meets its contract.
use borrow.Author.Rules.{rules}
use Rattle.codes.specs.PutLaws.{columns_put_none, columns_put_more, columns_put_all}
use Rattle.encoding.proofs.put_columns.Goals as goal

pub loop-c-init : goal.loop-c-init
loop-c-init c = search (columns_put_none, rules)

pub loop-c-preserved : goal.loop-c-preserved
loop-c-preserved c = search (columns_put_more, rules)

pub returns : goal.returns
returns c = search (columns_put_all, rules)
