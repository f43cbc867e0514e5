-- `trial_end::end_trial` meets its contract: what its loop keeps.
use mathlib.Core.Path.{◌≡◌}
use Rattle.room.specs.Trial.{wiped}
use Rattle.trial_end.proofs.end_trial.Given as goal

abbrev pub invariant-loop-i : goal.invariant-loop-i
invariant-loop-i l = l.books ≡ wiped l.initial.books l.i
