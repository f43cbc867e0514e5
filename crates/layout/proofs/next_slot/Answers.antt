-- `layout::next_slot` meets its contract.
use borrow.Author.Rules.{rules}
use Rattle.layout.specs.ExitLaws.{next-first, next_more}
use Rattle.layout.proofs.next_slot.Goals as goal

pub returns-then-s-slot : goal.returns-then-s-slot
returns-then-s-slot c = (search (next-first, rules), search rules)

pub returns-else-s-slot : goal.returns-else-s-slot
returns-else-s-slot c = (search (next_more, rules), search rules)
