-- `column_checks::in_body` meets its contract.
use borrow.Author.Rules.{rules}
use Rattle.column_checks.specs.RuleLaws.{body_none, body_some}
use Rattle.column_checks.proofs.in_body.Goals as goal

pub returns-then-n-eq0 : goal.returns-then-n-eq0
returns-then-n-eq0 c = search (body_none, rules)

pub returns-else-n-eq0 : goal.returns-else-n-eq0
returns-else-n-eq0 c = search (body_some, rules)
