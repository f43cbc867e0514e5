-- `ranges::columns_in_range` meets its contract: what its loops keep.
use mathlib.Core.List.{[]}
use Rattle.search.specs.Every.{All}
use Rattle.rules.specs.Ranges.{column_in_range}
use Rattle.state.specs.World.{world}
use Rattle.ranges.proofs.columns_in_range.Given as goal

abbrev pub invariant-loop-c : goal.invariant-loop-c
invariant-loop-c l = All (column_in_range (world l.s [] [] l.books)) l.c
