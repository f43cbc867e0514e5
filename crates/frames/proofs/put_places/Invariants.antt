-- `frames::put_places` meets its contract: what its loops keep.
use Prim.Native.Nat.{◌*◌}
use mathlib.Core.Path.{◌≡◌}
use lib.ListN.{length}
use Rattle.outs.specs.Coding.{names_in}
use Rattle.frames.specs.Frame.{places_text}
use Rattle.frames.specs.Laid.{Laid}
use Rattle.frames.proofs.put_places.Given as goal

abbrev pub invariant-loop-i : goal.invariant-loop-i
invariant-loop-i l = (length l.out ≡ length l.initial.out) × Laid (78 * l.i) l.at (places_text (names_in l.side) l.i) l.initial.out l.out l.place
