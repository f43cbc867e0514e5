-- `ranges::slots_in_range` meets its contract.
use Rattle.std.proofs.Common.{sym, ◌∙◌, arith}
use Rattle.search.specs.Every.{all_none, all_more, all_fails, all_done}
use Rattle.ranges.proofs.slots_in_range.Goals as goal

pub loop-slot-init : goal.loop-slot-init
loop-slot-init c = all_none _

pub loop-slot-preserved : goal.loop-slot-preserved
loop-slot-preserved c = all_more c.loop-slot.invariant (sym c.slot_in_range.ensures ∙ c.if-not-slot_in_range.false)

pub returns-then-not-slot_in_range : goal.returns-then-not-slot_in_range
returns-then-not-slot_in_range c = all_fails _ _ _ (omega arith) (sym c.slot_in_range.ensures ∙ c.if-not-slot_in_range.true)

-- the last slot passed
pub returns-else-not-slot_in_range : goal.returns-else-not-slot_in_range
returns-else-not-slot_in_range c =
    all_done _ (all_more c.loop-slot.invariant (sym c.slot_in_range.ensures ∙ c.if-not-slot_in_range.false)) (omega arith)

pub returns : goal.returns
returns c = all_done _ c.loop-slot.invariant (omega arith)
