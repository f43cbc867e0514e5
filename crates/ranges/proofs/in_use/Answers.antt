-- `ranges::in_use` meets its contract.
use borrow.Author.Rules.{rules}
use Rattle.ranges.specs.RangeLaws.{use_not, use_is}
use Rattle.ranges.proofs.in_use.Goals as goal

pub returns-then-k-get32 : goal.returns-then-k-get32
returns-then-k-get32 c = search (use_is, rules)

pub returns-else-k-get32 : goal.returns-else-k-get32
returns-else-k-get32 c = search (use_not, rules)
