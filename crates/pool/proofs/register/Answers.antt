-- `pool::register` meets its contract.
use native.Mathlib.Omega.{arith}
use borrow.Author.Rules.{rules}
use Rattle.pool.specs.RegisterLaws.{short, not_placed, placed, bytes_room}
use Rattle.room.specs.RoomLaws.{number_room, number_few}
use Rattle.pool.proofs.register.Goals as goal

pub returns-then-capacity-bytes : goal.returns-then-capacity-bytes
returns-then-capacity-bytes c = search (short, rules)

pub register_at-requires : goal.register_at-requires
register_at-requires c = (search (number_room, rules), search (number_few, rules), search (bytes_room, rules), omega arith)

pub returns-in_err-r : goal.returns-in_err-r
returns-in_err-r c = search (not_placed, rules)

pub returns : goal.returns
returns c = placed _ _ _ _ _ (omega (arith, c.if-capacity-bytes.false)) c.choose.ensures c.in_ok-r.was c.register_at.ensures
