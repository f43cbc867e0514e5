-- `slot_counts::put_count` meets its contract.
use borrow.Author.Rules.{rules}
use Rattle.slot_counts.specs.CountLaws.{tally_room}
use Rattle.slot_counts.proofs.put_count.Goals as goal

pub put_tally-requires : goal.put_tally-requires
put_tally-requires c = search (tally_room, rules)
