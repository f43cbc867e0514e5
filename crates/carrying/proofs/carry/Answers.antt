-- `carrying::carry` meets its contract.
use borrow.Author.Rules.{rules}
use Rattle.pool.specs.CarryLaws.{carried_none, carried-more}
use Rattle.carrying.proofs.carry.Goals as goal

pub loop-i-init : goal.loop-i-init
loop-i-init c = search (carried_none, rules)

pub loop-i-preserved : goal.loop-i-preserved
loop-i-preserved c = search (carried-more, rules)
