-- `column_checks::bitmap_need` meets its contract.
use native.Mathlib.Omega.{arith}
use borrow.Author.Rules.{rules}
use Rattle.column_checks.specs.RuleLaws.{need_none, need_some}
use Rattle.column_checks.proofs.bitmap_need.Goals as goal

pub returns-then-rows-eq0 : goal.returns-then-rows-eq0
returns-then-rows-eq0 c = (search (need_none, rules), search rules)

pub returns-else-rows-eq0 : goal.returns-else-rows-eq0
returns-else-rows-eq0 c = (search (need_some, rules), omega arith)
