-- `outs::is_out` meets its contract: what its loops keep.
use mathlib.Core.Bool.{false}
use mathlib.Core.Path.{◌≡◌}
use Rattle.outs.specs.Coding.{first_names}
use Rattle.outs.specs.Outs.{among}
use Rattle.outs.proofs.is_out.Given as goal

abbrev pub invariant-loop-i : goal.invariant-loop-i
invariant-loop-i l = (among l.name (first_names l.side l.i) ≡ false)
