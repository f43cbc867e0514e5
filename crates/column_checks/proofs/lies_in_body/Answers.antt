-- `column_checks::lies_in_body` meets its contract.
use borrow.Author.Rules.{rules}
use Rattle.column_checks.specs.RuleLaws.{values_fit, values_few, lies_are}
use Rattle.column_checks.proofs.lies_in_body.Goals as goal

pub overflow_mul-rows : goal.overflow_mul-rows
overflow_mul-rows c = search (values_fit, rules)

pub in_body-requires : goal.in_body-requires
in_body-requires c = search (values_few, rules)

pub returns : goal.returns
returns c = search (lies_are, rules)
