-- What holds while a push is tried: state and books in order, the books with marked entries only gained; and what is read of a column that is compacted.
use Rattle.std.specs.Prelude.{ℕ, ◌+◌, ◌*◌, ◌≤◌, ◌<◌, ◌≡◌, true, List, [], length}
use Rattle.room.specs.Back.{Tried}
use Rattle.state.specs.declared.BatchCoalescer.{BatchCoalescer}
use Rattle.state.specs.World.{world}
use Rattle.state.specs.Layout.{is_views, list_length}
use Rattle.rules.specs.declared.ColumnRecord.{ColumnRecord}
use Rattle.rules.specs.declared.Way.{Way}
use Rattle.rules.specs.Stays.{SameSetUp}
use Rattle.push_safety.specs.Run.{Run}

-- they are in order beside some slots and some pool
pub record Trying (s : BatchCoalescer) (books : List ℕ) : Type 0 where
  pub slots : List ℕ
  pub pool : List ℕ
  pub run : Run (world s slots pool books)

-- what every step of a trial leaves, refused or not
pub record Tries (s : BatchCoalescer) (books : List ℕ) (t : BatchCoalescer) (books' : List ℕ) : Type 0 where
  pub set_up : SameSetUp s t
  pub marks : Tried books books' s.numbers
  pub trying : Trying t books'

-- a column: the rows buffered are as they were
pub record TriesColumn (s : BatchCoalescer) (books : List ℕ) (t : BatchCoalescer) (books' : List ℕ) : Type 0 where
  pub tries : Tries s books t books'
  pub buffered : t.buffered.0 ≡ s.buffered.0

-- a column of views, where no more numbers are listed than n
pub record Bufferable (s : BatchCoalescer) (books : List ℕ) (c n : ℕ) : Type 0 where
  pub trying : Trying s books
  pub column : c < s.columns
  pub views : is_views s c ≡ true
  pub most : list_length (world s [] [] books) s.place c ≤ n

-- n rows from row `from` on of one column, where it is compacted
pub record Compactable (s : BatchCoalescer) (body : List ℕ) (r : ColumnRecord) (way : Way) (c from n : ℕ) : Type 0 where
  pub few : from + n ≤ 65536
  pub views : way ≡ Way.Compacted → is_views s c ≡ true
  pub values : way ≡ Way.Compacted → r.values + (from + n) * 16 ≤ length body
