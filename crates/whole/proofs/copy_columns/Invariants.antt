-- `whole::copy_columns` meets its contract: what its loops keep.
use Prim.Native.Nat.{◌≤◌}
use mathlib.Core.Path.{◌≡◌}
use lib.ListN.{length}
use Rattle.state.specs.Layout.{values_place}
use Rattle.rules.specs.Batch.{batch}
use Rattle.whole.specs.QueueLaws.{LaidTo}
use Rattle.whole.proofs.copy_columns.Given as goal

abbrev pub invariant-loop-c : goal.invariant-loop-c
invariant-loop-c l = (l.s.columns ≤ 16) × (length l.slots ≡ length l.initial.slots) × (length l.books ≡ length l.initial.books) × (l.place ≡ values_place l.s l.s.place l.c) × (LaidTo l.s l.initial.slots l.initial.books (batch l.rows.0 l.records l.body) l.c l.slots l.books)
