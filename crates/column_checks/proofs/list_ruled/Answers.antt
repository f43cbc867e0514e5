-- `column_checks::list_ruled` meets its contract.
use borrow.Author.Rules.{rules}
use Rattle.column_checks.specs.RuleLaws.{list-empty, list-some}
use Rattle.column_checks.proofs.list_ruled.Goals as goal

pub returns-then-r-eq0 : goal.returns-then-r-eq0
returns-then-r-eq0 c = search (list-empty, rules)

pub returns-else-r-eq0 : goal.returns-else-r-eq0
returns-else-r-eq0 c = search (list-some, rules)
