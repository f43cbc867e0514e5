-- `outs::is_side` meets its contract: what its loops keep.
use Rattle.search.specs.Every.{All}
use Rattle.words.specs.WordLaws.{Bytes}
use Rattle.outs.specs.Steps.{is_name_at}
use Rattle.outs.proofs.is_side.Given as goal

abbrev pub invariant-loop-i : goal.invariant-loop-i
invariant-loop-i l = Bytes l.side × All (is_name_at l.side) l.i
