-- `buffer_ranges::books_in_range` meets its contract: what its loop keeps.
use Rattle.pool.specs.ReadLaws.{fit}
use Rattle.search.specs.Every.{All}
use Rattle.buffer_ranges.proofs.books_in_range.Given as goal

abbrev pub invariant-loop-i : goal.invariant-loop-i
invariant-loop-i l = All (fit l.books l.pool.0) l.i
