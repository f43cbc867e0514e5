-- `outs::is_last` meets its contract.
use borrow.Author.Rules.{rules}
use Rattle.outs.specs.StripTests.{last_zero, last_one}
use Rattle.outs.proofs.is_last.Goals as goal

pub returns-then-flag-eq0 : goal.returns-then-flag-eq0
returns-then-flag-eq0 c = search (last_zero, rules)

pub returns-else-flag-eq0 : goal.returns-else-flag-eq0
returns-else-flag-eq0 c = search (last_one, rules)
