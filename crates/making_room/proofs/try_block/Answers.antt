-- `making_room::try_block` meets its contract.
use borrow.Author.Rules.{rules}
use Rattle.room.specs.RoomLaws.{tried_is}
use Rattle.making_room.proofs.try_block.Goals as goal

pub returns : goal.returns
returns c = search (tried_is, rules)
