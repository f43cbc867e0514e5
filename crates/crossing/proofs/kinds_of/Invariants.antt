-- `crossing::kinds_of` meets its contract: what its loop keeps.
use Rattle.crossing.specs.Cross.{kinds_to}
use lib.ListN.{length}
use mathlib.Core.Path.{◌≡◌}
use Rattle.crossing.proofs.kinds_of.Given as goal

abbrev pub invariant-loop-c : goal.invariant-loop-c
invariant-loop-c l = (length l.all ≡ 16) × (l.all ≡ kinds_to l.kinds l.c)
