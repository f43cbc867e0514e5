-- `trial::close_all` meets its contract: what its loops keep.
use mathlib.Core.Path.{◌≡◌}
use Rattle.trial_truth.specs.Tells.{closed_to}
use Rattle.trial.specs.Tried.{ClosesFirst}
use Rattle.trial.proofs.close_all.Given as goal

abbrev pub invariant-loop-c : goal.invariant-loop-c
invariant-loop-c l = (ClosesFirst l.s l.t l.c) × (l.t ≡ closed_to l.s l.c)
