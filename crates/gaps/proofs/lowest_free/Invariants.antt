-- `gaps::lowest_free` meets its contract: what its loop keeps.
use Rattle.books.specs.Entry.{is_free_at}
use Rattle.search.specs.First.{Passed}
use Rattle.gaps.proofs.lowest_free.Given as goal

abbrev pub invariant-loop-i : goal.invariant-loop-i
invariant-loop-i l = Passed (is_free_at l.books) l.i
