-- `rows::row_answer` meets its contract.
use borrow.Author.Rules.{rules}
use Rattle.rows.specs.RowLaws.{bit_room, answer_null, answer_value}
use Rattle.ranges.specs.Passed.{passed_few, passed_slot, passed_column}
use Rattle.rows.proofs.row_answer.Goals as goal

pub bitmap_place-requires : goal.bitmap_place-requires
bitmap_place-requires c = search (passed_few, passed_slot, passed_column, rules)

pub bit_at-bit-requires : goal.bit_at-bit-requires
bit_at-bit-requires c = search (bit_room, rules)

pub returns-then-bit-eq0 : goal.returns-then-bit-eq0
returns-then-bit-eq0 c = search (answer_null, rules)

pub returns-else-bit-eq0 : goal.returns-else-bit-eq0
returns-else-bit-eq0 c = search (answer_value, rules)
