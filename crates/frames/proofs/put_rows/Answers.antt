-- `frames::put_rows` meets its contract.
use borrow.Author.Rules.{rules}
use Rattle.frames.specs.BlockLaws.{rows_none, rows_more, rows_all}
use Rattle.frames.proofs.put_rows.Goals as goal

pub loop-i-init : goal.loop-i-init
loop-i-init c = search (rows_none, rules)

pub loop-i-preserved : goal.loop-i-preserved
loop-i-preserved c = search (rows_more, rules)

pub returns : goal.returns
returns c = search (rows_all, rules)
