-- `layout::columns_bytes` meets its contract.
use borrow.Author.Rules.{rules}
use Rattle.layout.specs.ExitLaws.{columns_none, column_kind, columns_all}
use Rattle.layout.proofs.columns_bytes.Goals as goal

pub loop-i-init : goal.loop-i-init
loop-i-init c = search (columns_none, rules)

pub loop-i-preserved : goal.loop-i-preserved
loop-i-preserved c = search (column_kind, rules)

pub returns : goal.returns
returns c = (search (columns_all, rules), search rules)
