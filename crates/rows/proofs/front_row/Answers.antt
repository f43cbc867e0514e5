-- `rows::front_row` meets its contract.
use borrow.Author.Rules.{rules}
use Rattle.rows.specs.RowLaws.{front-none, front-column, front-row, front-done}
use Rattle.ranges.specs.Passed.{passed_few, passed_books, passed_place, passed_queued, passed_row}
use Rattle.rows.proofs.front_row.Goals as goal

pub returns-then-s-eq0 : goal.returns-then-s-eq0
returns-then-s-eq0 c = search (front-none, rules)

pub returns-then-s-c : goal.returns-then-s-c
returns-then-s-c c = search (front-column, rules)

pub front_slot-slot-requires : goal.front_slot-slot-requires
front_slot-slot-requires c = search (passed_few, passed_place, passed_queued, rules)

pub rows_in-requires : goal.rows_in-requires
rows_in-requires c = search (passed_few, passed_books, rules)

pub row_answer-requires : goal.row_answer-requires
row_answer-requires c = search (passed_row, rules)

pub returns-then-i-rows_in : goal.returns-then-i-rows_in
returns-then-i-rows_in c = search (front-done, rules)

pub returns-else-i-rows_in : goal.returns-else-i-rows_in
returns-else-i-rows_in c = search (front-row, rules)
