-- `slot_counts::next_to_fill` meets its contract.
use borrow.Author.Rules.{rules}
use Rattle.slot_counts.specs.CountLaws.{next_is}
use Rattle.slot_counts.proofs.next_to_fill.Goals as goal

pub returns : goal.returns
returns c = search (next_is, rules)
