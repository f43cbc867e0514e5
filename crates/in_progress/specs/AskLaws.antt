-- What the code asks before it reads or writes, from what it was given.
use Rattle.std.specs.Prelude.{ℕ, ◌≤◌, ◌<◌, ◌≡◌, List, length}
use Rattle.std.proofs.Common.{arith}
use Rattle.state.specs.declared.BatchCoalescer.{BatchCoalescer}
use Rattle.state.specs.World.{world}
use Rattle.state.specs.Layout.{books_length}
use Rattle.layout.specs.Few.{Few}
use Rattle.primitive.specs.declared.Rows.{Rows}
use Rattle.primitive.specs.PlacedLaws.{places_small}
use Rattle.rules.specs.declared.ColumnRecord.{ColumnRecord}
use Rattle.rules.specs.Batch.{Batch}
use Rattle.columns.specs.SourceLaws.{run_few}
use Rattle.in_progress.specs.Part.{Part}

module _ {s : BatchCoalescer} {slots pool books : List ℕ} {b : Batch} {r : ColumnRecord} {p : Rows} (x : Part (world s slots pool books) b r p) where
  pub part_few : Few s
  part_few = run_few x.run

  pub part_column : p.column < 16
  part_column = omega (arith, part_few.columns, x.column)

  pub part_slot : s.place ≤ s.queue
  part_slot = x.run.fit.place

  pub part_books : length books ≡ books_length s
  part_books = x.run.fit.books_are

  pub part_place : p.place ≤ 35000000000
  part_place =
      omega (arith, x.placed, places_small s s.place p.column part_few (omega (arith, part_few.queue, part_slot)) (omega (arith, part_column)))

  pub part_at : p.at ≤ 65536
  part_at = omega (arith, x.room, part_few.rows)
