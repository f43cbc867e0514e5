-- `slot_counts::list_length` meets its contract.
use borrow.Author.Rules.{rules}
use Rattle.slot_counts.specs.CountLaws.{length_is}
use Rattle.slot_counts.proofs.list_length.Goals as goal

pub returns : goal.returns
returns c = search (length_is, rules)
