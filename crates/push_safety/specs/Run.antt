-- What holds of a world while a push goes on, whatever state within the ranges of 14 it began with; and what may be read of its batch.
use Rattle.std.specs.Prelude.{ℕ, ◌+◌, ◌*◌, ◌≤◌, ◌<◌, ◌≡◌, true, false, length}
use Rattle.words.specs.WordLaws.{Bytes}
use Rattle.books.specs.Entry.{used_of, entry_of}
use Rattle.pool.specs.Register.{is_held}
use Rattle.counts.specs.declared.BufferNumber.{BufferNumber}
use Rattle.state.specs.World.{World, column_of}
use Rattle.state.specs.Layout.{width_of, is_views, slots_length, books_length, list_length}
use Rattle.rules.specs.Ranges.{in_bounds}
use Rattle.rules.specs.Batch.{Batch, record_of, has_bitmap, listed_number, row_view}
use Rattle.rules.specs.Views.{source_place}
use Rattle.std.specs.Prelude.{Some}

-- set-up within its bounds, memories of its lengths, the counts in range
pub record Fit (w : World) : Type 0 where
  pub bounds : in_bounds w.state ≡ true
  pub slots_are : length w.slots ≡ slots_length w.state
  pub pool_is : length w.pool ≡ w.state.pool.0
  pub books_are : length w.books ≡ books_length w.state
  pub place : w.state.place ≤ w.state.queue
  pub queued : w.state.queued ≤ w.state.queue
  pub bytes : Bytes w.books

-- the buffers in use lie in the pool; every list has at most B numbers; a view column keeps a size that is not 0, and its open block is in use
-- and has a place in its list
pub record Run (w : World) : Type 0 where
  pub fit : Fit w
  pub used : used_of w.books ≤ w.state.numbers
  pub inside : (k : ℕ) → k < used_of w.books → (entry_of w.books k).start + (entry_of w.books k).capacity.0 ≤ w.state.pool.0
  pub filled : (k : ℕ) → k < used_of w.books → (entry_of w.books k).length.0 ≤ (entry_of w.books k).capacity.0
  pub lists : (slot c : ℕ) → slot ≤ w.state.queue → c < w.state.columns → list_length w slot c ≤ w.state.lists
  pub none : (slot c : ℕ) → slot ≤ w.state.queue → c < w.state.columns → is_views w.state c ≡ false → list_length w slot c ≡ 0
  pub kept : (c : ℕ) → c < w.state.columns → is_views w.state c ≡ true → 1 ≤ (column_of w.state c).source.current.0
  pub block : (c : ℕ) (k : BufferNumber) → c < w.state.columns → is_views w.state c ≡ true → (column_of w.state c).block ≡ Some k → k.0 < used_of w.books
  pub room : (c : ℕ) (k : BufferNumber) → c < w.state.columns → is_views w.state c ≡ true → (column_of w.state c).block ≡ Some k → list_length w w.state.place c < w.state.lists

-- a column of the batch: its values, bits and list lie in the body; the caller holds what it lists
pub record ColumnReads (w : World) (b : Batch) (c : ℕ) : Type 0 where
  pub values : (record_of b c).values + b.rows * width_of w.state c ≤ length b.body
  pub bits : has_bitmap (record_of b c) ≡ true → 8 * (record_of b c).validity + (record_of b c).first + b.rows ≤ 8 * length b.body
  pub listed : (record_of b c).list + 4 * (record_of b c).count ≤ length b.body
  pub held : (i : ℕ) → i < (record_of b c).count → is_held w.books (listed_number b c i) ≡ true
  pub plain : is_views w.state c ≡ false → (record_of b c).count ≡ 0

-- a long view of it: its index is in the list, and its bytes are in the pool
pub record RowReads (w : World) (b : Batch) (c i : ℕ) : Type 0 where
  pub index : (row_view w b c i).index < (record_of b c).count
  pub source : source_place w b c (row_view w b c i) + (row_view w b c i).length ≤ w.state.pool.0

-- the whole batch
pub record Readable (w : World) (b : Batch) : Type 0 where
  pub records_are : length b.records ≡ 32 * w.state.columns
  pub rows_fit : b.rows ≤ w.state.rows.0
  pub columns : (c : ℕ) → c < w.state.columns → ColumnReads w b c
  pub long : (c i : ℕ) → c < w.state.columns → is_views w.state c ≡ true → i < b.rows → 12 < (row_view w b c i).length → RowReads w b c i

-- from one world of a push to a later one: what held still holds, and what could be read still can
pub record Goes (w v : World) : Type 0 where
  pub run : Run v
  pub reads : (b : Batch) → Readable w b → Readable v b
