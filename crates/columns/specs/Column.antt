-- What is decided of a pushed column, and how long a list is once the open block has joined it.
use Rattle.std.specs.Prelude.{ℕ, ◌+◌, ◌*◌, ◌≤◌, ◌≡◌, true, cond, List, length}
use Rattle.byte_view.specs.declared.Source.{Source}
use Rattle.byte_view.specs.Copying.{Entered}
use Rattle.rules.specs.declared.Way.{Way}
use Rattle.rules.specs.Batch.{Batch, record_of, ideal, way}
use Rattle.rules.specs.Views.{is_open, filling}
use Rattle.state.specs.declared.BatchCoalescer.{BatchCoalescer}
use Rattle.state.specs.World.{World}
use Rattle.state.specs.Layout.{is_views, list_length}

-- the ideal size and the way of a column of views; a column that is not of views is copied
unfoldable pub source_for : World → Batch → ℕ → Source
source_for w b c =
    cond (is_views w.state c) (record { ideal = record { 0 = ideal w b c }; way = way w b c })
    (record { ideal = record { 0 = 0 }; way = Way.Copied })

-- the length of the list of column c of the slot being filled, the open block counted
unfoldable pub closed_length : World → ℕ → ℕ
closed_length w c = cond (is_open w c) (list_length w (filling w) c + 1) (list_length w (filling w) c)

-- what deciding asks: the record is there, and where the column is one of views, its views lie in the body and its list has entries
pub record Sourceable (s : BatchCoalescer) (books : List ℕ) (b : Batch) (c : ℕ) : Type 0 where
  pub record_room : 32 * c + 32 ≤ length b.records
  pub values : is_views s c ≡ true → (record_of b c).values + b.rows * 16 ≤ length b.body
  pub entered : is_views s c ≡ true → Entered books b.body (record_of b c).list (record_of b c).count
