-- `making_room::open_as` meets its contract.
use native.Mathlib.Omega.{arith}
use borrow.Author.Rules.{rules}
use Rattle.room.specs.RoomLaws.{number_room, number_few, capacity_fits, opens_not, opens_at, opens_dirty}
use Rattle.making_room.proofs.open_as.Goals as goal

pub returns-in_err-r : goal.returns-in_err-r
returns-in_err-r c = search (opens_not, rules)

pub entry_at-old-requires : goal.entry_at-old-requires
entry_at-old-requires c = search (number_room, rules)

pub overflow_cast-e : goal.overflow_cast-e
overflow_cast-e c = record { fits = capacity_fits _ _ _ _ c.choose.ensures c.in_ok-r.was (omega arith) }

pub take_entry-requires : goal.take_entry-requires
take_entry-requires c = search (number_room, number_few, rules)

pub returns-then-is_zero : goal.returns-then-is_zero
returns-then-is_zero c = opens_at _ _ _ _ c.args.hold c.args.listings c.choose.ensures c.in_ok-r.was c.entry_at-old.ensures c.is_zero.ensures c.if-is_zero.true c.take_entry.ensures

pub returns-else-is_zero : goal.returns-else-is_zero
returns-else-is_zero c = search (opens_dirty, rules)
