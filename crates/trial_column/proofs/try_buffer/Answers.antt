-- `trial_column::try_buffer` meets its contract.
use borrow.Author.Rules.{rules}
use Rattle.trial_column.specs.OpenLaws.{buffer_refused, buffer_opened, buffers_full, buffers_refused, buffers_opened}
use Rattle.trial_column.specs.TryingLaws.{trying_column, trying_size, trying_room, column-none}
use Rattle.trial_column.proofs.try_buffer.Goals as goal

pub column_of-column-requires : goal.column_of-column-requires
column_of-column-requires c = search (trying_column, rules)

pub next_size-next-requires : goal.next_size-next-requires
next_size-next-requires c = search (trying_size, rules)

pub try_block-chosen-requires : goal.try_block-chosen-requires
try_block-chosen-requires c = search (trying_room, rules)

pub with_column-t-requires : goal.with_column-t-requires
with_column-t-requires c = search (trying_column, rules)

pub returns-in-Err : goal.returns-in-Err
returns-in-Err c = (search (buffer_refused, rules), buffers_refused _ _ _ _ c.args.min c.if-n-s.true c.column_of-column.ensures c.next_size-next.ensures c.try_block-chosen.ensures (search rules))

pub returns-in-Ok : goal.returns-in-Ok
returns-in-Ok c = (search (buffer_opened, c.requires, c.if-n-s.true, c.column_of-column.ensures, c.next_size-next.ensures, c.try_block-chosen.ensures, c.with_column-t.ensures, rules), search (buffers_opened, c.if-n-s.true, c.column_of-column.ensures, c.next_size-next.ensures, c.try_block-chosen.ensures, c.with_column-t.ensures, rules))

pub returns-else-n-s : goal.returns-else-n-s
returns-else-n-s c = (column-none c.requires.trying, buffers_full _ _ _ c.if-n-s.false)
