-- `ranges::column_in_range` meets its contract.
use borrow.Author.Rules.{rules}
use Rattle.ranges.specs.RangeLaws.{column_other, column-size, column-last}
use Rattle.ranges.proofs.column_in_range.Goals as goal

pub returns-then-between : goal.returns-then-between
returns-then-between c = search (column-last, rules)

pub returns-else-between : goal.returns-else-between
returns-else-between c = search (column-size, rules)

pub returns-then-not-is_view : goal.returns-then-not-is_view
returns-then-not-is_view c = search (column_other, rules)
