-- `outs::refusal_for` meets its contract.
use borrow.Author.Rules.{rules}
use Rattle.outs.proofs.EventExits.{lent, number_at, number_low}
use Rattle.outs.proofs.refusal_for.Goals as goal

pub side_refusal-requires : goal.side_refusal-requires
side_refusal-requires c = search (lent, rules)

pub returns-then-is_above : goal.returns-then-is_above
returns-then-is_above c = search (number_at, rules)

pub returns-else-is_above : goal.returns-else-is_above
returns-else-is_above c = search (number_low, rules)
