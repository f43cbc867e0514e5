-- `outs::Side::of` meets its contract.
use borrow.Author.Rules.{rules}
use Rattle.outs.specs.Outs.{side_of}
use Rattle.outs.proofs.Side.of.Goals as goal

pub returns-then-number-eq1 : goal.returns-then-number-eq1
unfolding side_of
returns-then-number-eq1 c = search rules

pub returns-else-number-eq1 : goal.returns-else-number-eq1
unfolding side_of
returns-else-number-eq1 c = search rules
