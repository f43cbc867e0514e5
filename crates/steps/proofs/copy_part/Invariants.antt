-- `steps::copy_part` meets its contract: what its loops keep.
use Prim.Native.Nat.{◌≤◌}
use mathlib.Core.Path.{◌≡◌}
use lib.ListN.{length}
use Rattle.state.specs.Layout.{values_place}
use Rattle.state.specs.World.{world}
use Rattle.rules.specs.Batch.{batch}
use Rattle.steps.specs.PartLaws.{ColumnsCopied}
use Rattle.steps.proofs.copy_part.Given as goal

abbrev pub invariant-loop-c : goal.invariant-loop-c
invariant-loop-c l = (l.s.columns ≤ 16) × (length l.slots ≡ length l.initial.slots) × (length l.pool ≡ length l.initial.pool) × (length l.books ≡ length l.initial.books) × (l.place ≡ values_place l.s l.s.place l.c) × (ColumnsCopied (world l.s l.initial.slots l.initial.pool l.initial.books) (batch l.rows.0 l.records l.body) l.sources l.from l.n.0 l.c (world l.t l.slots l.pool l.books))
