-- `ranges::state_in_range` meets its contract.
use borrow.Author.Rules.{rules}
use Rattle.ranges.specs.RangeLaws.{entries_room, state_is, state_place}
use Rattle.ranges.proofs.state_in_range.Goals as goal

pub books_in_range-requires : goal.books_in_range-requires
books_in_range-requires c = search (entries_room, rules)

pub returns-then-s : goal.returns-then-s
returns-then-s c = search (state_is, rules)

pub returns-else-s : goal.returns-else-s
returns-else-s c = search (state_place, rules)
