-- `column_checks::bit_ruled` meets its contract.
use borrow.Author.Rules.{rules}
use Rattle.column_checks.specs.RuleLaws.{bit_none, bit_some}
use Rattle.column_checks.proofs.bit_ruled.Goals as goal

pub returns-else-r-ne-NO_VALIDITY : goal.returns-else-r-ne-NO_VALIDITY
returns-else-r-ne-NO_VALIDITY c = search (bit_none, rules)

pub returns-then-r-ne-NO_VALIDITY : goal.returns-then-r-ne-NO_VALIDITY
returns-then-r-ne-NO_VALIDITY c = search (bit_some, rules)
