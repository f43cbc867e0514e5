-- A step of a push: from one world with so many rows of each column in the slot being filled to another, every row as it was.
use Rattle.std.specs.Prelude.{ℕ, ◌+◌, ◌*◌, ◌≤◌, ◌<◌, ◌≡◌, true, false, cond, eqb}
use Rattle.words.specs.WordLaws.{Bytes}
use Rattle.bits.specs.Bits.{bits_from}
use Rattle.books.specs.Entry.{entry_of, is_free}
use Rattle.views.specs.View.{is_valid}
use Rattle.state.specs.World.{World}
use Rattle.state.specs.Layout.{is_views, bitmap_bytes, bitmap_place, rows_in}
use Rattle.state.specs.Rows.{slot_cell}
use Rattle.rules.specs.Batch.{Batch, record_of, row_bit, row_view, listed_bytes, batch_cell}
use Rattle.rules.specs.Views.{filling}
use Rattle.rules.specs.Stays.{Beside}
use Rattle.push_safety.specs.Run.{Readable, Goes}
use Rattle.invariant.specs.Holding.{rows_at, Spared, Holding, Stands, PoolStays}

-- n rows more in column c
unfoldable pub more : (ℕ → ℕ) → ℕ → ℕ → ℕ → ℕ
more ext c n d = ext d + cond (eqb d c) n 0

-- every row reads as it did, and no live number loses a byte
pub record Moves (w : World) (ext : ℕ → ℕ) (v : World) (ext' : ℕ → ℕ) : Type 0 where
  pub holding : Holding v ext'
  pub goes : Goes w v
  pub beside : Beside w v
  pub grows : (c : ℕ) → ext c ≤ ext' c
  pub rows : (slot : ℕ) → slot ≤ w.state.queue → rows_in v slot ≡ rows_in w slot
  pub cells : (slot c i : ℕ) → slot ≤ w.state.queue → c < w.state.columns → i < rows_at w ext slot c → slot_cell v slot c i ≡ slot_cell w slot c i
  pub bytes : Bytes w.slots → Bytes v.slots
  pub stands : (k : ℕ) → k < w.state.numbers → is_free (entry_of w.books k) ≡ false → Stands w v k
  pub pool : PoolStays w v

-- and no bit changes, of rows or behind them
pub record BitsStill (w v : World) : Type 0 where
  pub bit : (slot c i : ℕ) → slot ≤ w.state.queue → c < w.state.columns → i < 8 * bitmap_bytes w.state → bits_from v.slots (bitmap_place w.state slot c) 0 i ≡ bits_from w.slots (bitmap_place w.state slot c) 0 i

-- the batch can be read: it has no fault, and is of bytes
pub record ReadableBatch (w : World) (b : Batch) : Type 0 where
  pub reads : Readable w b
  pub bytes : Bytes b.body
  pub valid : (c i : ℕ) → c < w.state.columns → is_views w.state c ≡ true → i < b.rows → is_valid (row_view w b c i) (listed_bytes w b c) (record_of b c).count ≡ true

-- the bits of n rows of column c from row `from` of the batch on stand at row `at` of the slot being filled on
pub record Laid (w : World) (b : Batch) (c at from n : ℕ) : Type 0 where
  pub bit : (j : ℕ) → j < n → bits_from w.slots (bitmap_place w.state (filling w) c) 0 (at + j) ≡ row_bit b c (from + j)

-- n rows of column c, from row `from` of the batch on, behind those that it had; their bits stood there before
pub record Extends (w : World) (ext : ℕ → ℕ) (b : Batch) (c from n : ℕ) (v : World) : Type 0 where
  pub moves : Moves w ext v (more ext c n)
  pub new : (j : ℕ) → j < n → slot_cell v (filling w) c (ext c + j) ≡ batch_cell w b c (from + j)
  pub still : BitsStill w v

-- the same, their bits among them: the spare ones are zero still
pub record Adds (w : World) (ext : ℕ → ℕ) (b : Batch) (c from n : ℕ) (v : World) : Type 0 where
  pub moves : Moves w ext v (more ext c n)
  pub new : (j : ℕ) → j < n → slot_cell v (filling w) c (ext c + j) ≡ batch_cell w b c (from + j)
  pub spared : Spared w ext → Spared v (more ext c n)
