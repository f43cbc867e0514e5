-- What copying a part of a batch into a column of the slot being filled asks, and what its steps leave.
use Rattle.std.specs.Prelude.{ℕ, ◌+◌, ◌-◌, ◌≤◌, ◌<◌, ◌≡◌, true, false, List, length}
use Rattle.byte_view.specs.declared.Source.{Source}
use Rattle.primitive.specs.declared.Rows.{Rows}
use Rattle.rules.specs.declared.ColumnRecord.{ColumnRecord}
use Rattle.rules.specs.declared.Way.{Way}
use Rattle.rules.specs.Batch.{Batch, record_of, ideal}
use Rattle.rules.specs.Steps.{Res, bind}
use Rattle.rules.specs.Views.{span, is_open, open_rest, long_before, closed, block_opened, views_compacted, walked, list_attached, views_raised, part_attached, bits_copied, by_way}
use Rattle.state.specs.declared.BatchCoalescer.{BatchCoalescer}
use Rattle.state.specs.World.{World, world}
use Rattle.state.specs.Layout.{is_views, values_place}
use Rattle.rules.specs.declared.Step.{Step}
use Rattle.rules.specs.Leaves.{Steps}
use Rattle.push_safety.specs.Run.{Run, Readable}

-- ---- rows

-- the first k rows of a part, and those behind them
abbrev pub first_rows : Rows → ℕ → Rows
first_rows p k = record { column = p.column; place = p.place; at = p.at; from = p.from; count = record { 0 = k } }

abbrev pub rows_behind : Rows → ℕ → Rows
rows_behind p k = record { column = p.column; place = p.place; at = p.at + k; from = p.from + k; count = record { 0 = p.count.0 - k } }

-- the bytes of their long views; the part copied into the open block
unfoldable pub long_of : World → Batch → Rows → ℕ
long_of w b p = long_before w b p.column p.from p.count.0

unfoldable pub compacting : World → Batch → Rows → Res
compacting w b p = views_compacted w b (span p.column p.at p.from p.count.0)

-- a block opened for a minimum, and the part copied into it; the same where the open block is closed before; and the walk
unfoldable pub opened_for : World → Batch → ℕ → Rows → Res
opened_for w b min p = bind (block_opened w p.column min) (λ v. compacting v b p)

-- what the walk takes of a part, where so many bytes are left in the block
unfoldable pub walked_of : World → Batch → ℕ → Rows → ℕ
walked_of w b rest p = walked w b p.column p.from p.count.0 rest

unfoldable pub walked_on : World → Batch → ℕ → ℕ → Rows → Res
walked_on w b ideal rest p =
    bind (compacting w b (first_rows p (walked_of w b rest p))) (λ v.
    opened_for (closed v p.column) b (ideal - long_of w b (first_rows p (walked_of w b rest p))) (rows_behind p (walked_of w b rest p)))

-- the rows' validity and then the rows themselves, the way that was decided
unfoldable pub copied_by : World → Batch → Rows → Way → Res
copied_by w b p y = by_way (bits_copied w b w.state.place (span p.column p.at p.from p.count.0)) b (span p.column p.at p.from p.count.0) y

-- ---- what is asked

-- rows of the batch, to be copied into column p.column: r is its record, p.place its place in the slot being filled
pub record Part (w : World) (b : Batch) (r : ColumnRecord) (p : Rows) : Type 0 where
  pub run : Run w
  pub reads : Readable w b
  pub column : p.column < w.state.columns
  pub recorded : r ≡ record_of b p.column
  pub placed : p.place ≡ values_place w.state w.state.place p.column
  pub there : p.from + p.count.0 ≤ b.rows
  pub room : p.at + p.count.0 ≤ w.state.rows.0

-- the column is one of views
pub record ViewPart (w : World) (b : Batch) (r : ColumnRecord) (p : Rows) : Type 0 where
  pub part : Part w b r p
  pub views : is_views w.state p.column ≡ true

-- the same whatever pool of the right length is lent
pub record AnyPart (s : BatchCoalescer) (slots books : List ℕ) (b : Batch) (r : ColumnRecord) (p : Rows) : Type 0 where
  pub any : (pool : List ℕ) → length pool ≡ s.pool.0 → ViewPart (world s slots pool books) b r p

-- the part's bytes have room in the open block
pub record RoomInOpen (w : World) (b : Batch) (r : ColumnRecord) (p : Rows) : Type 0 where
  pub part : ViewPart w b r p
  pub is_open_lem : is_open w p.column ≡ true
  pub rest : long_of w b p ≤ open_rest w p.column

-- the part does not fit the rest of the open block
pub record Walks (w : World) (b : Batch) (r : ColumnRecord) (p : Rows) (ideal rest : ℕ) : Type 0 where
  pub part : ViewPart w b r p
  pub is_open_lem : is_open w p.column ≡ true
  pub ideal_is : ideal ≡ Rattle.rules.specs.Batch.ideal w b p.column
  pub rest_is : rest ≡ open_rest w p.column
  pub short : rest < ideal

-- what was decided of the column: its ideal size, and its way, which is to be copied where there are no views
pub record Decided (w : World) (b : Batch) (c : ℕ) (x : Source) : Type 0 where
  pub ideal_is : is_views w.state c ≡ true → x.ideal.0 ≡ ideal w b c
  pub plain : is_views w.state c ≡ false → x.way ≡ Way.Copied

-- ---- what the steps leave

-- a part is attached with its list, or is not
pub record AttachesPart (s : BatchCoalescer) (slots books : List ℕ) (b : Batch) (p : Rows) (q : Step) (slots' books' : List ℕ) : Type 0 where
  pub steps : (pool : List ℕ) → length pool ≡ s.pool.0 → Steps (part_attached (world s slots pool books) b (span p.column p.at p.from p.count.0)) q slots' pool books'

-- the list of a column and the views of a part behind it, their index raised by k
pub record RaisesPart (s : BatchCoalescer) (slots books : List ℕ) (b : Batch) (k : ℕ) (p : Rows) (slots' books' : List ℕ) : Type 0 where
  pub is : (pool : List ℕ) → views_raised (list_attached (world s slots pool books) b p.column) b k (span p.column p.at p.from p.count.0) ≡ world s slots' pool books'
