-- `column_checks::bits_in_body` meets its contract.
use borrow.Author.Rules.{rules}
use Rattle.column_checks.specs.RuleLaws.{bits_none, bits-some}
use Rattle.column_checks.proofs.bits_in_body.Goals as goal

pub returns-then-r-eq-NO_VALIDITY : goal.returns-then-r-eq-NO_VALIDITY
returns-then-r-eq-NO_VALIDITY c = search (bits_none, rules)

pub returns-else-r-eq-NO_VALIDITY : goal.returns-else-r-eq-NO_VALIDITY
returns-else-r-eq-NO_VALIDITY c = search (bits-some, rules)
