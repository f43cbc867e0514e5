-- `routes::set_sources` meets its contract: what its loops keep.
use Prim.Native.Nat.{◌≤◌}
use mathlib.Core.List.{[]}
use Rattle.rules.specs.Batch.{batch}
use Rattle.state.specs.World.{world}
use Rattle.routes.specs.SourcedLaws.{SourcedTo}
use Rattle.routes.proofs.set_sources.Given as goal

abbrev pub invariant-loop-c : goal.invariant-loop-c
invariant-loop-c l = (l.s.columns ≤ 16) × (SourcedTo l.all.column (world l.s [] [] l.books) (batch l.rows.0 l.records l.body) l.c)
