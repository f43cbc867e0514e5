-- `outs::is_side` meets its contract.
use borrow.Author.Rules.{rules}
use Rattle.search.specs.Every.{all_none}
use Rattle.outs.specs.TestExits.{side_more, side_all, side_stop, side_many}
use Rattle.outs.specs.TestLaws.{bytes-known}
use Rattle.outs.proofs.is_side.Goals as goal

pub loop-i-init : goal.loop-i-init
loop-i-init c = (bytes-known c.type_inv.side, all_none _)

pub loop-i-preserved : goal.loop-i-preserved
loop-i-preserved c = search (side_more, rules)

pub returns-then-not-is_name_at : goal.returns-then-not-is_name_at
returns-then-not-is_name_at c = search (side_stop, rules)

pub returns-after-loop-i : goal.returns-after-loop-i
returns-after-loop-i c = search (side_all, rules)

pub returns-else-count-le7 : goal.returns-else-count-le7
returns-else-count-le7 c = search (side_many, rules)
