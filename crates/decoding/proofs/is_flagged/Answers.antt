-- `decoding::is_flagged` meets its contract.
use borrow.Author.Rules.{rules}
use Rattle.decoding.specs.ReadLaws.{flag_off, flag_on}
use Rattle.decoding.proofs.is_flagged.Goals as goal

pub returns-then-flag-eq0 : goal.returns-then-flag-eq0
returns-then-flag-eq0 c = search (flag_off, rules)

pub returns-else-flag-eq0 : goal.returns-else-flag-eq0
returns-else-flag-eq0 c = search (flag_on, rules)
