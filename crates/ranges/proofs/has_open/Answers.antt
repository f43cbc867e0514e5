-- `ranges::has_open` meets its contract.
use borrow.Author.Rules.{rules}
use Rattle.ranges.specs.RangeLaws.{opens-closed, opens_other, opens_here}
use Rattle.ranges.proofs.has_open.Goals as goal

pub returns-in-None : goal.returns-in-None
returns-in-None c = search (opens-closed, rules)

pub returns-then-j-k : goal.returns-then-j-k
returns-then-j-k c = search (opens_here, rules)

pub returns-else-j-k : goal.returns-else-j-k
returns-else-j-k c = search (opens_other, rules)
