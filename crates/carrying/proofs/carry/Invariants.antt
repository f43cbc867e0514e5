-- `carrying::carry` meets its contract: what its loop keeps.
use mathlib.Core.Path.{◌≡◌}
use Rattle.pool.specs.Carry.{carried}
use Rattle.carrying.proofs.carry.Given as goal

abbrev pub invariant-loop-i : goal.invariant-loop-i
invariant-loop-i l = l.pool ≡ carried l.initial.pool l.from l.to l.i
