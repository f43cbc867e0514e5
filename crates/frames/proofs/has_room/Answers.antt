-- `frames::has_room` meets its contract.
use borrow.Author.Rules.{rules}
use Rattle.frames.specs.CallLaws.{room_is, room_small}
use Rattle.frames.proofs.has_room.Goals as goal

pub returns-then-size-ge-STRIP_TEXT : goal.returns-then-size-ge-STRIP_TEXT
returns-then-size-ge-STRIP_TEXT c = search (room_is, rules)

pub returns-else-size-ge-STRIP_TEXT : goal.returns-else-size-ge-STRIP_TEXT
returns-else-size-ge-STRIP_TEXT c = search (room_small, rules)
