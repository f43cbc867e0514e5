-- Rows of a column of a slot: they have a place there, and their bits and values lie in the body.
use Rattle.std.specs.Prelude.{ℕ, ◌+◌, ◌*◌, ◌≤◌, ◌<◌, ◌≡◌, true}
use Rattle.state.specs.declared.BatchCoalescer.{BatchCoalescer}
use Rattle.state.specs.Layout.{width_of, values_place, slots_length}
use Rattle.layout.specs.Few.{Few}
use Rattle.rules.specs.declared.ColumnRecord.{ColumnRecord}
use Rattle.rules.specs.Batch.{has_bitmap}
use Rattle.primitive.specs.declared.Rows.{Rows}

-- L and body are the lengths of slots and body, r is the column's record
pub record Placed (s : BatchCoalescer) (slot L : ℕ) (r : ColumnRecord) (body : ℕ) (p : Rows) : Type 0 where
  pub few : Few s
  pub in_slots_lem : slot ≤ s.queue
  pub in_columns : p.column < s.columns
  pub slots_are : L ≡ slots_length s
  pub placed : p.place ≡ values_place s slot p.column
  pub room : p.at + p.count.0 ≤ s.rows.0
  pub bits : has_bitmap r ≡ true → 8 * r.validity + r.first + (p.from + p.count.0) ≤ 8 * body
  pub values : r.values + (p.from + p.count.0) * width_of s p.column ≤ body
