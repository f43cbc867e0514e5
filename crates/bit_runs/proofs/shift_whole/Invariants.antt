-- `bit_runs::shift_whole` meets its contract: what its loop keeps.
use Prim.Native.Nat.{◌*◌}
use mathlib.Core.Path.{◌≡◌}
use Rattle.bits.specs.Bits.{bits_from, appended}
use Rattle.bit_runs.proofs.shift_whole.Given as goal

abbrev pub invariant-loop-i : goal.invariant-loop-i
invariant-loop-i l = l.dst ≡ appended l.initial.dst (8 * l.d) (bits_from l.src l.q l.s) (8 * l.i)
