-- `in_progress::open_and_copy` meets its contract.
use borrow.Author.Rules.{rules}
use Rattle.in_progress.specs.CompactLaws.{part_booked, next_fits, next-copied, next_stops}
use Rattle.in_progress.proofs.open_and_copy.Goals as goal

pub next_buffer-next-requires : goal.next_buffer-next-requires
next_buffer-next-requires c = part_booked c.requires.0

pub copy_into_open-requires : goal.copy_into_open-requires
copy_into_open-requires c = next_fits c.requires.0 c.requires.1 c.next_buffer-next.ensures (search rules)

pub returns-then-next-eq0 : goal.returns-then-next-eq0
returns-then-next-eq0 c = next-copied c.requires.0 c.requires.1 c.next_buffer-next.ensures (search rules) c.copy_into_open.ensures

pub returns-else-next-eq0 : goal.returns-else-next-eq0
returns-else-next-eq0 c = next_stops c.requires.0 c.requires.1 c.next_buffer-next.ensures (search rules)
