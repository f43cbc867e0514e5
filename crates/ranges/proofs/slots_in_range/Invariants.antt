-- `ranges::slots_in_range` meets its contract: what its loops keep.
use mathlib.Core.List.{[]}
use Rattle.search.specs.Every.{All}
use Rattle.rules.specs.Ranges.{slot_in_range}
use Rattle.state.specs.World.{world}
use Rattle.ranges.proofs.slots_in_range.Given as goal

abbrev pub invariant-loop-slot : goal.invariant-loop-slot
invariant-loop-slot l = All (slot_in_range (world l.s l.slots [] l.books)) l.slot
