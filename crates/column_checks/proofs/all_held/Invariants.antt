-- `column_checks::all_held` meets its contract: what its loops keep.
use Rattle.search.specs.Every.{All}
use Rattle.column_checks.specs.RuleLaws.{held_at}
use Rattle.column_checks.proofs.all_held.Given as goal

abbrev pub invariant-loop-i : goal.invariant-loop-i
invariant-loop-i l = All (held_at l.books l.body l.list) l.i
