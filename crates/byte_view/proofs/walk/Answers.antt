-- `byte_view::walk` meets its contract.
use borrow.Author.Rules.{rules}
use Rattle.byte_view.specs.WalkLaws.{walking_none, walking_fits, walking_more, walked_at, walked_all}
use Rattle.byte_view.proofs.walk.Goals as goal

pub loop-i-init : goal.loop-i-init
loop-i-init c = search (walking_none, rules)

pub returns-then-left-v : goal.returns-then-left-v
returns-then-left-v c = (search (walked_at, rules), search rules, search rules)

pub overflow_sub-left : goal.overflow_sub-left
overflow_sub-left c = search (walking_fits, rules)

pub loop-i-preserved : goal.loop-i-preserved
loop-i-preserved c = search (walking_more, walking_fits, rules)

pub returns : goal.returns
returns c = (search (walked_all, rules), search rules, search rules)
