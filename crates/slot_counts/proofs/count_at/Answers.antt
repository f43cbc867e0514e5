-- `slot_counts::count_at` meets its contract.
use borrow.Author.Rules.{rules}
use Rattle.slot_counts.specs.CountLaws.{tally_room}
use Rattle.slot_counts.proofs.count_at.Goals as goal

pub tally_at-requires : goal.tally_at-requires
tally_at-requires c = search (tally_room, rules)
