-- What holds of a world between any two calls of a history, and between any two steps of a push: one record, a sentence a field.
use Rattle.std.specs.Prelude.{ℕ, ◌+◌, ◌-◌, ◌/◌, ◌≤◌, ◌<◌, ◌≡◌, ◌≢◌, true, false, cond, List, length, get_or, ltb, eqb}
use Rattle.words.specs.Run.{read}
use Rattle.bits.specs.Bits.{bits_from}
use Rattle.views.specs.View.{view_of, is_valid}
use Rattle.blocks.specs.BlockLaws.{Power}
use Rattle.books.specs.Entry.{entry_of, is_free}
use Rattle.sound.specs.Sound.{Sound, filled_bytes}
use Rattle.state.specs.declared.BatchCoalescer.{BatchCoalescer}
use Rattle.state.specs.World.{World, column_of}
use Rattle.state.specs.Layout.{is_views, bitmap_place, cell_place, rows_in, list_length, queued_slot}
use Rattle.state.specs.Rows.{listed_at, buffer_at}
use Rattle.rules.specs.Batch.{sum_to}
use Rattle.rules.specs.Views.{is_open, open_number}
use Rattle.push_safety.specs.Run.{Run}
use Rattle.std.specs.Prelude.{Some}

-- ---- the numbers that a slot lists

-- how many buffers a view of column c of a slot may show: those of its list; in the slot being filled the open block behind them
-- (DECISIONS 7: "buffered long views carry index = list length meanwhile")
unfoldable pub reach : World → ℕ → ℕ → ℕ
reach w slot c =
    cond (is_views w.state c)
    (list_length w slot c + cond (eqb slot w.state.place) (cond (is_open w c) 1 0) 0)
    0

-- the number of the one at index i
unfoldable pub number_at : World → ℕ → ℕ → ℕ → ℕ
number_at w slot c i = cond (ltb i (list_length w slot c)) (listed_at w slot c i) (open_number w c)

-- how often number k is listed there; and in all slots. 01: "a count of listings", "The open block counts as listed."
unfoldable pub times_in : World → ℕ → ℕ → ℕ → ℕ
times_in w slot c k = sum_to (reach w slot c) (λ i. cond (eqb k (number_at w slot c i)) 1 0)

unfoldable pub listings : World → ℕ → ℕ
listings w k = sum_to (w.state.queue + 1) (λ slot. sum_to w.state.columns (λ c. times_in w slot c k))

-- ---- the open blocks

-- column c, of views, has block k open
pub record HasOpen (s : BatchCoalescer) (c k : ℕ) : Type 0 where
  pub column : c < s.columns
  pub views : is_views s c ≡ true
  pub block : (column_of s c).block ≡ Some (record { 0 = k })

-- no two columns have the same
pub record Alone (s : BatchCoalescer) : Type 0 where
  pub alone : (c d k : ℕ) → HasOpen s c k → HasOpen s d k → c ≡ d

-- the caller holds none of them. 01: "A block opened by the port has no caller's hold."
pub record Unheld (s : BatchCoalescer) (books : List ℕ) : Type 0 where
  pub unheld : (c k : ℕ) → HasOpen s c k → (entry_of books k).hold ≡ 0

-- ---- the rows of a slot

-- the slot of a queued batch
pub record Queued (w : World) (slot : ℕ) : Type 0 where
  pub turn : ℕ
  pub below : turn < w.state.queued
  pub is : slot ≡ queued_slot w.state turn

-- the rows that column c of a slot has: in the slot being filled `ext c`, which is what is buffered, and during a push the rows copied besides
unfoldable pub rows_at : World → (ℕ → ℕ) → ℕ → ℕ → ℕ
rows_at w ext slot c = cond (eqb slot w.state.place) (ext c) (rows_in w slot)

-- bit i is a spare one behind n rows: it lies behind their bits, in the byte of the last
pub record IsSpare (n i : ℕ) : Type 0 where
  pub some : 0 < n
  pub behind : n ≤ i
  pub byte : i / 8 ≡ (n - 1) / 8

-- 01: "spare bits of the last bitmap byte are zero", in every column of every slot
pub record Spared (w : World) (ext : ℕ → ℕ) : Type 0 where
  pub spare : (slot c i : ℕ) → slot ≤ w.state.queue → c < w.state.columns → IsSpare (rows_at w ext slot c) i → bits_from w.slots (bitmap_place w.state slot c) 0 i ≡ 0

-- ---- the invariant

pub record Holding (w : World) (ext : ℕ → ℕ) : Type 0 where
  -- set-up within its bounds, memories of its lengths, place and queued within Q, lists within B, the open block with a place in its list
  pub run : Run w
  -- no byte of the pool is in two buffers, a free number has a zero entry, and a buffer has as many listings as stand in the slots' lists
  pub sound : Sound w.books w.state.numbers w.state.pool.0 (listings w)
  -- a listed number is below N
  pub listed : (slot c i : ℕ) → slot ≤ w.state.queue → c < w.state.columns → i < list_length w slot c → listed_at w slot c i < w.state.numbers
  -- a column of views keeps a block size that is 4,096 doubled
  pub sizes : (c : ℕ) → c < w.state.columns → is_views w.state c ≡ true → Power (column_of w.state c).source.current.0
  -- a state has 16 columns, those that set-up did not ask for behind the others; no two have the same block open, and the caller holds none that is
  pub sixteen : length w.state.column ≡ 16
  pub alone : Alone w.state
  pub unheld : Unheld w.state w.books
  -- a slot that is not queued counts no rows, and one that is not being filled either lists nothing
  pub uncounted : (slot : ℕ) → slot ≤ w.state.queue → (Queued w slot → ⊥) → rows_in w slot ≡ 0
  pub unlisted : (slot c : ℕ) → slot ≤ w.state.queue → slot ≢ w.state.place → (Queued w slot → ⊥) → c < w.state.columns → list_length w slot c ≡ 0
  -- a queued batch has a row
  pub some : (slot : ℕ) → Queued w slot → 1 ≤ rows_in w slot
  -- no slot has more than R rows
  pub counted : (slot : ℕ) → slot ≤ w.state.queue → rows_in w slot ≤ w.state.rows.0
  pub within : (c : ℕ) → c < w.state.columns → ext c ≤ w.state.rows.0
  -- every view of a row is valid over the buffers that its slot lists
  pub valid : (slot c i : ℕ) → slot ≤ w.state.queue → c < w.state.columns → is_views w.state c ≡ true → i < rows_at w ext slot c → is_valid (view_of w.slots (cell_place w.state slot c i)) (buffer_at w slot c) (reach w slot c) ≡ true

-- between two calls every column has the rows buffered, they are fewer than the target, and spare bits are zero; where there are no rows, nothing is listed for them
-- and no block is open
pub record Between (w : World) : Type 0 where
  pub holding : Holding w (λ c. w.state.buffered.0)
  pub below : w.state.buffered.0 < w.state.target.0
  pub spared : Spared w (λ c. w.state.buffered.0)
  pub begun : w.state.buffered.0 ≡ 0 → (c : ℕ) → c < w.state.columns → reach w w.state.place c ≡ 0

-- ---- from one world to a later one

-- the bytes a are the first of b
pub record Begins (a b : List ℕ) : Type 0 where
  pub most : length a ≤ length b
  pub same : read 0 (length a) b ≡ a

-- number k is live in the later world, and its filled bytes begin with those that it had
pub record Stands (w v : World) (k : ℕ) : Type 0 where
  pub live : is_free (entry_of v.books k) ≡ false
  pub begins : Begins (filled_bytes w.books w.pool k) (filled_bytes v.books v.pool k)

-- byte x of the pool is number k's: it lies within its capacity, and in an open block within what is filled
pub record Owns (w : World) (k x : ℕ) : Type 0 where
  pub from : (entry_of w.books k).start ≤ x
  pub below : x < (entry_of w.books k).start + (entry_of w.books k).capacity.0
  pub filled : (c : ℕ) → HasOpen w.state c k → x < (entry_of w.books k).start + (entry_of w.books k).length.0

-- number k lies in the later world where it lay, is held as it was, and has its bytes; only an open block is filled further, and none is opened again
pub record Lies (w v : World) (k : ℕ) : Type 0 where
  pub start : (entry_of v.books k).start ≡ (entry_of w.books k).start
  pub capacity : (entry_of v.books k).capacity.0 ≡ (entry_of w.books k).capacity.0
  pub hold : (entry_of v.books k).hold ≡ (entry_of w.books k).hold
  pub longer : (entry_of w.books k).length.0 ≤ (entry_of v.books k).length.0
  pub filled : ((c : ℕ) → HasOpen w.state c k → ⊥) → (entry_of v.books k).length.0 ≡ (entry_of w.books k).length.0
  pub was_open : (c : ℕ) → HasOpen v.state c k → HasOpen w.state c k
  pub bytes : (x : ℕ) → Owns w k x → get_or v.pool x 0 ≡ get_or w.pool x 0

-- no buffer fills byte x of the pool
pub record Unfilled (w : World) (x : ℕ) : Type 0 where
  pub unfilled : (k : ℕ) → k < w.state.numbers → is_free (entry_of w.books k) ≡ false → (entry_of w.books k).start ≤ x → x < (entry_of w.books k).start + (entry_of w.books k).length.0 → ⊥

-- every live number lies where it lay, and a byte that no buffer fills then is as it was. 01: "Pool bytes change only where bytes are registered or
-- copied"
pub record PoolStays (w v : World) : Type 0 where
  pub numbers : v.state.numbers ≡ w.state.numbers
  pub live : (k : ℕ) → k < w.state.numbers → is_free (entry_of w.books k) ≡ false → is_free (entry_of v.books k) ≡ false
  pub lies : (k : ℕ) → k < w.state.numbers → is_free (entry_of w.books k) ≡ false → Lies w v k
  pub only : (x : ℕ) → Unfilled v x → get_or v.pool x 0 ≡ get_or w.pool x 0
