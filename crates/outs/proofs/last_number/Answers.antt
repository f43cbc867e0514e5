-- `outs::last_number` meets its contract.
use borrow.Author.Rules.{rules}
use Rattle.outs.proofs.EventExits.{number_none, number_some}
use Rattle.outs.proofs.last_number.Goals as goal

pub returns-then-get32-eq0 : goal.returns-then-get32-eq0
returns-then-get32-eq0 c = search (number_none, rules)

pub returns-else-get32-eq0 : goal.returns-else-get32-eq0
returns-else-get32-eq0 c = search (number_some, rules)
