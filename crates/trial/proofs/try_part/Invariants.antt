-- `trial::try_part` meets its contract: what its loops keep.
use Prim.Native.Nat.{◌≤◌}
use mathlib.Core.Path.{◌≡◌}
use lib.ListN.{length}
use Rattle.trial_truth.specs.Tells.{TellsTo}
use Rattle.trial_column.specs.Trying.{TriesColumn}
use Rattle.trial.proofs.try_part.Given as goal

abbrev pub invariant-loop-c : goal.invariant-loop-c
invariant-loop-c l = (l.s.columns ≤ 16) × (length l.books ≡ length l.initial.books) × (TriesColumn l.s l.initial.books l.t l.books) × (TellsTo l.s l.initial.books l.sources l.records l.body l.from l.n.0 l.c l.t l.books)
