-- `gaps::lowest_gap` meets its contract: what its loops keep.
use Prim.Native.Nat.{◌<◌, ◌-◌, ◌+◌, ◌^◌}
use Rattle.books.specs.Search.{clear_at}
use Rattle.search.specs.First.{Passed}
use Rattle.gaps.proofs.lowest_gap.Given as goal

abbrev pub invariant-loop-at : goal.invariant-loop-at
invariant-loop-at l = (l.at < 2 ^ 33) × Passed (clear_at l.books l.want) l.at

abbrev pub decreases-loop-at : goal.decreases-loop-at
decreases-loop-at l = l.end + 1 - l.at
