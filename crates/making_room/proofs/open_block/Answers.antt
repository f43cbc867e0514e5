-- `making_room::open_block` meets its contract.
use borrow.Author.Rules.{rules}
use Rattle.room.specs.RoomLaws.{opened_is}
use Rattle.making_room.proofs.open_block.Goals as goal

pub returns : goal.returns
returns c = search (opened_is, rules)
