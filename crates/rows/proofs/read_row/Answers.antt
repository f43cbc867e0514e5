-- `rows::read_row` meets its contract.
use borrow.Author.Rules.{rules}
use Rattle.rows.specs.RowLaws.{row-refused, row_read_lem}
use Rattle.ranges.specs.Passed.{passed}
use Rattle.rows.proofs.read_row.Goals as goal

pub front_row-requires : goal.front_row-requires
front_row-requires c = search (passed, rules)

pub returns-then-number-eq0 : goal.returns-then-number-eq0
returns-then-number-eq0 c = search (row_read_lem, rules)

pub returns-else-number-eq0 : goal.returns-else-number-eq0
returns-else-number-eq0 c = search (row-refused, rules)
