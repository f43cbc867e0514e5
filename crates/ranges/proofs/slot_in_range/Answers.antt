-- `ranges::slot_in_range` meets its contract.
use borrow.Author.Rules.{rules}
use Rattle.std.proofs.Common.{sym, ◌∙◌}
use Rattle.search.specs.Every.{all_none, all_more}
use Rattle.ranges.specs.RangeLaws.{slot_long, slot_fails, slot_done}
use Rattle.ranges.proofs.slot_in_range.Goals as goal

pub returns-then-s-rows_in : goal.returns-then-s-rows_in
returns-then-s-rows_in c = search (slot_long, rules)

pub loop-c-init : goal.loop-c-init
loop-c-init c = all_none _

pub loop-c-preserved : goal.loop-c-preserved
loop-c-preserved c = all_more c.loop-c.invariant (sym c.list_in_range.ensures ∙ c.if-not-list_in_range.false)

pub returns-then-not-list_in_range : goal.returns-then-not-list_in_range
returns-then-not-list_in_range c = search (slot_fails, rules)

pub returns : goal.returns
returns c = search (slot_done, rules)
