-- `column_checks::is_valid` meets its contract.
use borrow.Author.Rules.{rules}
use Rattle.column_checks.specs.RowLaws.{listed_room, buffer_inside, valid_inline, valid_long, valid_beyond}
use Rattle.column_checks.proofs.is_valid.Goals as goal

pub buffer_of-b-requires : goal.buffer_of-b-requires
buffer_of-b-requires c = search (listed_room, rules)

pub in_buffer-requires : goal.in_buffer-requires
in_buffer-requires c = (search rules, search (buffer_inside, rules))

pub returns-then-v-le-MAX_INLINE_VIEW_LEN : goal.returns-then-v-le-MAX_INLINE_VIEW_LEN
returns-then-v-le-MAX_INLINE_VIEW_LEN c = search (valid_inline, rules)

pub returns-then-v-count : goal.returns-then-v-count
returns-then-v-count c = search (valid_long, rules)

pub returns-else-v-count : goal.returns-else-v-count
returns-else-v-count c = search (valid_beyond, rules)
