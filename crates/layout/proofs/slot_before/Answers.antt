-- `layout::slot_before` meets its contract.
use borrow.Author.Rules.{rules}
use Rattle.layout.specs.ExitLaws.{before_near, before_far}
use Rattle.layout.proofs.slot_before.Goals as goal

pub returns-then-k-slot : goal.returns-then-k-slot
returns-then-k-slot c = (search (before_near, rules), search rules)

pub returns-else-k-slot : goal.returns-else-k-slot
returns-else-k-slot c = (search (before_far, rules), search rules)
