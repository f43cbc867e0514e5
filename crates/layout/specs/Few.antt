-- What the formulas ask of a state: the upper bounds of set-up, so that every place fits a word of the machine.
use Rattle.std.specs.Prelude.{ℕ, ◌+◌, ◌*◌, ◌/◌, ◌≤◌, cond}
use Rattle.kinds.specs.Kind.{width_at, is_view}
use Rattle.state.specs.declared.BatchCoalescer.{BatchCoalescer}
use Rattle.state.specs.Layout.{bytes_in}

pub record Few (s : BatchCoalescer) : Type 0 where
  pub rows : s.rows.0 ≤ 65536
  pub queue : s.queue ≤ 1024
  pub columns : s.columns ≤ 16
  pub lists : s.lists ≤ 1024
  pub numbers : s.numbers ≤ 65536

-- the bytes of a column of a kind in a slot: values, bitmap, and a list where it is one of views
unfoldable pub size_of_kind : ℕ → ℕ → ℕ → ℕ
size_of_kind kind rows lists = rows * bytes_in (width_at kind) + ((rows + 7) / 8 + cond (is_view kind) (4 * lists) 0)
