-- `outs::What::of` meets its contract.
use borrow.Author.Rules.{rules}
use Rattle.outs.specs.Outs.{what_of}
use Rattle.outs.proofs.What.of.Goals as goal

pub returns-then-event-eq1 : goal.returns-then-event-eq1
unfolding what_of
returns-then-event-eq1 c = search rules

pub returns-else-event-eq1 : goal.returns-else-event-eq1
unfolding what_of
returns-else-event-eq1 c = search rules
