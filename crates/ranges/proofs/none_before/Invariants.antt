-- `ranges::none_before` meets its contract: what its loops keep.
use Rattle.search.specs.Every.{All}
use Rattle.ranges.specs.Tested.{not_open}
use Rattle.ranges.proofs.none_before.Given as goal

abbrev pub invariant-loop-d : goal.invariant-loop-d
invariant-loop-d l = All (not_open l.s l.k.0) l.d
