-- `ranges::kinds_known` meets its contract: what its loops keep.
use Rattle.search.specs.Every.{All}
use Rattle.ranges.specs.BoundsLaws.{known}
use Rattle.ranges.proofs.kinds_known.Given as goal

abbrev pub invariant-loop-c : goal.invariant-loop-c
invariant-loop-c l = All (known l.s) l.c
