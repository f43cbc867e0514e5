-- `ranges::words_below` meets its contract.
use borrow.Author.Rules.{rules}
use Rattle.search.specs.Every.{all_none}
use Rattle.ranges.specs.RangeLaws.{lower-more, lower_fails, lower-done}
use Rattle.ranges.proofs.words_below.Goals as goal

pub loop-i-init : goal.loop-i-init
loop-i-init c = all_none _

pub loop-i-preserved : goal.loop-i-preserved
loop-i-preserved c = search (lower-more, rules)

pub returns-then-n-get32 : goal.returns-then-n-get32
returns-then-n-get32 c = search (lower_fails, rules)

pub returns : goal.returns
returns c = search (lower-done, rules)
