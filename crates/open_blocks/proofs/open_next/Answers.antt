-- `open_blocks::open_next` meets its contract.
use borrow.Author.Rules.{rules}
use Rattle.open_blocks.specs.OpenLaws.{next-refused, next-done}
use Rattle.open_blocks.specs.AskLaws.{booked-column, booked-kept, booked_used, booked_entries, booked-numbers}
use Rattle.open_blocks.proofs.open_next.Goals as goal

pub column_of-column-requires : goal.column_of-column-requires
column_of-column-requires c = search (booked-column, rules)

pub next_size-next-requires : goal.next_size-next-requires
next_size-next-requires c = search (booked-kept, rules)

pub open_block-chosen-requires : goal.open_block-chosen-requires
open_block-chosen-requires c = (search (booked_used, rules), search (booked_entries, rules), search (booked-numbers, rules))

pub with_column-t-requires : goal.with_column-t-requires
with_column-t-requires c = search (booked-column, rules)

pub returns-in-Err : goal.returns-in-Err
returns-in-Err c = search (next-refused, rules)

pub returns-in-Ok : goal.returns-in-Ok
returns-in-Ok c = search (next-done, rules)
