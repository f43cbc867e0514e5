-- `ranges::between` meets its contract.
use borrow.Author.Rules.{rules}
use Rattle.ranges.specs.BoundsLaws.{between_low, between_not}
use Rattle.ranges.proofs.between.Goals as goal

pub returns-then-low-x : goal.returns-then-low-x
returns-then-low-x c = search (between_low, rules)

pub returns-else-low-x : goal.returns-else-low-x
returns-else-low-x c = search (between_not, rules)
