-- `rows::view_answer` meets its contract.
use borrow.Author.Rules.{rules}
use Rattle.rows.specs.RowLaws.{view_inline, view_outside, view-listed}
use Rattle.ranges.specs.Passed.{passed_few, passed_books, passed_slot, passed_column, passed_listed}
use Rattle.rows.proofs.view_answer.Goals as goal

pub returns-then-v-le-MAX_INLINE_VIEW_LEN : goal.returns-then-v-le-MAX_INLINE_VIEW_LEN
returns-then-v-le-MAX_INLINE_VIEW_LEN c = search (view_inline, rules)

pub list_length-requires : goal.list_length-requires
list_length-requires c = search (passed_few, passed_books, rules)

pub list_place-requires : goal.list_place-requires
list_place-requires c = search (passed_few, passed_slot, passed_column, rules)

pub get32-k-requires : goal.get32-k-requires
get32-k-requires c = search (passed_listed, rules)

pub returns-then-v-list_length : goal.returns-then-v-list_length
returns-then-v-list_length c = search (view-listed, rules)

pub returns-else-v-list_length : goal.returns-else-v-list_length
returns-else-v-list_length c = search (view_outside, rules)
