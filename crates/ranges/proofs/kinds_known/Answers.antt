-- `ranges::kinds_known` meets its contract.
use borrow.Author.Rules.{rules}
use Rattle.search.specs.Every.{all_none}
use Rattle.ranges.specs.BoundsLaws.{known_more, known_fails, known-done}
use Rattle.ranges.proofs.kinds_known.Goals as goal

pub loop-c-init : goal.loop-c-init
loop-c-init c = all_none _

pub returns-in_default : goal.returns-in_default
returns-in_default c = search (known_fails, rules)

pub loop-c-preserved : goal.loop-c-preserved
loop-c-preserved c = search (known_more, rules)

pub returns : goal.returns
returns c = search (known-done, rules)
