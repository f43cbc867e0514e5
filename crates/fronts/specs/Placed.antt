-- A column of the front batch by its kind and the place where its values begin: what the loop over columns hands down, instead of the state.
use Rattle.std.specs.Prelude.{ℕ, ◌+◌, ◌*◌, ◌/◌}
use Rattle.kinds.specs.Kind.{width_at}
use Rattle.state.specs.Layout.{bytes_in}
use Rattle.fronts.specs.Front.{FrontColumn}

-- of a slot of so many rows, and with so many numbers in the column's list. 01: "A slot holds R rows of each column, a validity bitmap and a list"
unfoldable pub column_of_kind : ℕ → ℕ → ℕ → ℕ → FrontColumn
column_of_kind kind rows place count =
    record {
      values = place;
      bitmap = place + rows * bytes_in (width_at kind);
      list = place + rows * bytes_in (width_at kind) + (rows + 7) / 8;
      count = count;
      width = bytes_in (width_at kind);
    }
