-- `ranges::none_before` meets its contract.
use borrow.Author.Rules.{rules}
use Rattle.search.specs.Every.{all_none, all_done}
use Rattle.ranges.specs.RangeLaws.{before_more, before_fails}
use Rattle.ranges.proofs.none_before.Goals as goal

pub loop-d-init : goal.loop-d-init
loop-d-init c = all_none _

pub returns-then-has_open : goal.returns-then-has_open
returns-then-has_open c = search (before_fails, rules)

pub loop-d-preserved : goal.loop-d-preserved
loop-d-preserved c = search (before_more, rules)

pub returns : goal.returns
returns c = all_done _ c.loop-d.invariant c.loop-d-test.false
