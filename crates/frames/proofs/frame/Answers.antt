-- `frames::frame` meets its contract.
use mathlib.Core.Path.{refl}
use borrow.Author.Rules.{rules}
use native.Mathlib.Omega.{arith}
use Rattle.outs.specs.StripTests.{fault-says}
use Rattle.outs.specs.AnswersLaws.{fault_some}
use Rattle.frames.specs.CallLaws.{room_says, frame_answer_lem, frame_leaves_lem, stripless_answer, stripless_leaves, short_answer, short_leaves}
use Rattle.frames.proofs.frame.Goals as goal

pub put_strip-a-requires : goal.put_strip-a-requires
put_strip-a-requires c = (fault-says _ c.in-Ok.ensures refl, omega (arith, room_says _ _ c.has_room.ensures c.if-has_room.true))

pub put_rows-requires : goal.put_rows-requires
put_rows-requires c = omega (arith, room_says _ _ c.has_room.ensures c.if-has_room.true)

pub returns-in-Ok : goal.returns-in-Ok
returns-in-Ok c = (
  frame_answer_lem _ _ _ _ c.in-Ok.ensures refl c.has_room.ensures c.if-has_room.true c.put_strip-a.ensures c.put_rows.ensures,
  frame_leaves_lem _ _ _ _ c.in-Ok.ensures refl c.has_room.ensures c.if-has_room.true c.put_strip-a.ensures c.put_rows.ensures,
)

pub returns-in-Err : goal.returns-in-Err
returns-in-Err c =
    (stripless_answer _ _ _ _ c.in-Err.ensures (fault_some _), stripless_leaves _ _ _ _ c.in-Err.ensures (fault_some _))

pub returns-else-has_room : goal.returns-else-has_room
returns-else-has_room c = (search (short_answer, rules), search (short_leaves, rules))
