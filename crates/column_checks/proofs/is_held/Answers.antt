-- `column_checks::is_held` meets its contract.
use borrow.Author.Rules.{rules}
use Rattle.column_checks.specs.RuleLaws.{held_beyond, held_is, entry_room}
use Rattle.column_checks.proofs.is_held.Goals as goal

pub entry_at-requires : goal.entry_at-requires
entry_at-requires c = search (entry_room, rules)

pub returns-then-k-get32 : goal.returns-then-k-get32
returns-then-k-get32 c = search (held_is, rules)

pub returns-else-k-get32 : goal.returns-else-k-get32
returns-else-k-get32 c = search (held_beyond, rules)
