-- The world of a call: the state, and the three memories that are lent beside it.
use Rattle.std.specs.Prelude.{ℕ, List, get_or}
use Rattle.state.specs.declared.BatchCoalescer.{BatchCoalescer}
use Rattle.state.specs.declared.Column.{Column}
use Rattle.std.specs.Prelude.{None}

-- 01, "Lent memory": state, slots, pool and books
pub record World : Type 0 where
  pub state : BatchCoalescer
  pub slots : List ℕ
  pub pool : List ℕ
  pub books : List ℕ

abbrev pub world : BatchCoalescer → List ℕ → List ℕ → List ℕ → World
world s slots pool books = record { state = s; slots = slots; pool = pool; books = books }

-- what an element past the end of the array reads as: the column of zeros
abbrev pub no_column : Column
no_column = record { kind = 0; source = record { current = record { 0 = 0 } }; block = None }

-- column c of the state
unfoldable pub column_of : BatchCoalescer → ℕ → Column
column_of s c = get_or s.column c no_column
