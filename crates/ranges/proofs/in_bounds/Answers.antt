-- `ranges::in_bounds` meets its contract.
use borrow.Author.Rules.{rules}
use Rattle.ranges.specs.BoundsLaws.{bounds_are, bounds_columns}
use Rattle.ranges.proofs.in_bounds.Goals as goal

pub returns-then-s-le16 : goal.returns-then-s-le16
returns-then-s-le16 c = search (bounds_are, rules)

pub returns-else-s-le16 : goal.returns-else-s-le16
returns-else-s-le16 c = search (bounds_columns, rules)
