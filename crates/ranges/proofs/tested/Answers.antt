-- `ranges::tested` meets its contract.
use borrow.Author.Rules.{rules}
use Rattle.ranges.specs.BoundsLaws.{fits_sized}
use Rattle.ranges.specs.RangeLaws.{tested_0, tested_14, tested_1}
use Rattle.ranges.proofs.tested.Goals as goal

pub state_in_range-requires : goal.state_in_range-requires
state_in_range-requires c = search (fits_sized, rules)

pub returns-then-state_in_range : goal.returns-then-state_in_range
returns-then-state_in_range c = search (tested_0, rules)

pub returns-else-state_in_range : goal.returns-else-state_in_range
returns-else-state_in_range c = search (tested_14, rules)

pub returns-then-not-fits_set_up : goal.returns-then-not-fits_set_up
returns-then-not-fits_set_up c = search (tested_1, rules)
