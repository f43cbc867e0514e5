-- `making_room::choose` meets its contract.
use borrow.Author.Rules.{rules}
use Rattle.room.specs.RoomLaws.{no_number, no_gap, room_found}
use Rattle.making_room.proofs.choose.Goals as goal

pub returns-in_err-number : goal.returns-in_err-number
returns-in_err-number c = search (no_number, rules)

pub returns-in_err-start : goal.returns-in_err-start
returns-in_err-start c = search (no_gap, rules)

pub returns : goal.returns
returns c = search (room_found, rules)
