-- `frames::put_rows` meets its contract: what its loops keep.
use Prim.Native.Nat.{◌*◌}
use mathlib.Core.Path.{◌≡◌}
use lib.ListN.{length}
use Rattle.frames.specs.Frame.{rows_text}
use Rattle.frames.specs.Laid.{Laid}
use Rattle.frames.proofs.put_rows.Given as goal

abbrev pub invariant-loop-i : goal.invariant-loop-i
invariant-loop-i l = (length l.out ≡ length l.initial.out) × Laid (129 * l.i) l.at (rows_text l.numbers l.i) l.initial.out l.out l.place
