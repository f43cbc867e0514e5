-- `ranges::words_below` meets its contract: what its loops keep.
use Rattle.search.specs.Every.{All}
use Rattle.ranges.specs.RangeLaws.{lower}
use Rattle.ranges.proofs.words_below.Given as goal

abbrev pub invariant-loop-i : goal.invariant-loop-i
invariant-loop-i l = All (lower l.s l.at l.n) l.i
