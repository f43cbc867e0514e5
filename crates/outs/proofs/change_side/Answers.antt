-- `outs::change_side` meets its contract.
use Rattle.outs.proofs.EventExits.{room_for, somebody_there}
use Rattle.outs.proofs.change_side.Goals as goal

pub go_out-requires : goal.go_out-requires
go_out-requires c =
    (c.requires.0, c.requires.1, room_for _ _ c.requires.1 (rw c.in-Out.is at c.requires.3), rw c.in-Out.is at c.requires.2)

pub come_back-requires : goal.come_back-requires
come_back-requires c = (c.requires.0, c.requires.1, somebody_there _ c.requires.1 (rw c.in-Revive.is at c.requires.3))
