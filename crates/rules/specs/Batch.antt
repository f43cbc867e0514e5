-- A pushed batch: its records, its rows, and for a column of views the ideal, the actual and the way it goes.
use Rattle.std.specs.Prelude.{ℕ, zero, suc, ◌+◌, ◌*◌, Bool, not, cond, List, ltb, eqb}
use Rattle.words.specs.Word.{word32}
use Rattle.words.specs.Run.{read}
use Rattle.bits.specs.Bits.{bits_from}
use Rattle.views.specs.declared.View.{View}
use Rattle.views.specs.View.{view_of, long_length}
use Rattle.books.specs.Entry.{entry_of}
use Rattle.sound.specs.Sound.{filled_bytes}
use Rattle.rules.specs.declared.ColumnRecord.{ColumnRecord}
use Rattle.rules.specs.declared.Way.{Way}
use Rattle.state.specs.World.{World}
use Rattle.state.specs.Layout.{width_of, is_views}
use Rattle.state.specs.Rows.{Cell, Row, up_to, cell_of}

-- 01: "A row count, a body of bytes, and column records of 32 bytes with no header"
pub record Batch : Type 0 where
  pub rows : ℕ
  pub records : List ℕ
  pub body : List ℕ

abbrev pub batch : ℕ → List ℕ → List ℕ → Batch
batch rows records body = record { rows = rows; records = records; body = body }

-- 01: "eight little-endian u32 words: kind; start of values; start of validity, 4,294,967,295 for none; first bit; start of
-- buffer list; list count; two words that are zero"
unfoldable pub record_of : Batch → ℕ → ColumnRecord
record_of b c =
    record {
      kind = word32 b.records (32 * c);
      values = word32 b.records (32 * c + 4);
      validity = word32 b.records (32 * c + 8);
      first = word32 b.records (32 * c + 12);
      list = word32 b.records (32 * c + 16);
      count = word32 b.records (32 * c + 20);
      spare = word32 b.records (32 * c + 24);
      spare2 = word32 b.records (32 * c + 28);
    }

unfoldable pub has_bitmap : ColumnRecord → Bool
has_bitmap r = not (eqb r.validity 4294967295)

-- the buffer number at place i of column c's list. 01: "The list is u32 buffer numbers."
unfoldable pub listed_number : Batch → ℕ → ℕ → ℕ
listed_number b c i = word32 b.body ((record_of b c).list + 4 * i)

-- the list of column c, as it stands in the body
unfoldable pub list_of : Batch → ℕ → List ℕ
list_of b c = read (record_of b c).list (4 * (record_of b c).count) b.body

-- the bytes of that buffer: of the one listed at place i from `list` of the body on
unfoldable pub bytes_listed : List ℕ → List ℕ → List ℕ → ℕ → ℕ → List ℕ
bytes_listed books pool body list i = filled_bytes books pool (word32 body (list + 4 * i))

unfoldable pub listed_bytes : World → Batch → ℕ → ℕ → List ℕ
listed_bytes w b c = bytes_listed w.books w.pool b.body (record_of b c).list

-- where row i of column c has its bytes in the body
unfoldable pub value_place : World → Batch → ℕ → ℕ → ℕ
value_place w b c i = (record_of b c).values + i * width_of w.state c

-- the view of row i of column c
unfoldable pub row_view : World → Batch → ℕ → ℕ → View
row_view w b c i = view_of b.body (value_place w b c i)

-- the bit of row i of a column with a record: 1 where there is no bitmap
unfoldable pub bit_of : ColumnRecord → List ℕ → ℕ → ℕ
bit_of r body i = cond (has_bitmap r) (bits_from body r.validity r.first i) 1

unfoldable pub row_bit : Batch → ℕ → ℕ → ℕ
row_bit b c i = bit_of (record_of b c) b.body i

-- the rows of the batch, as they are at the moment of the push
unfoldable pub batch_cell : World → Batch → ℕ → ℕ → Cell
batch_cell w b c i =
    cell_of (is_views w.state c) (row_bit b c i) b.body (value_place w b c i) (width_of w.state c) (listed_bytes w b c)

unfoldable pub batch_row : World → Batch → ℕ → Row
batch_row w b i = up_to w.state.columns (λ c. batch_cell w b c i)

unfoldable pub batch_rows : World → Batch → List Row
batch_rows w b = up_to b.rows (batch_row w b)

-- f 0 + f 1 + .. , n of them
unfoldable pub sum_to : ℕ → (ℕ → ℕ) → ℕ
sum_to zero f = 0
sum_to (suc n) f = sum_to n f + f n

-- 01: "Ideal" is the sum of lengths over 12 over the whole pushed column, null rows too
unfoldable pub ideal : World → Batch → ℕ → ℕ
ideal w b c = sum_to b.rows (λ i. long_length (row_view w b c i))

-- 01: "actual" the sum of capacities in its list
unfoldable pub actual : World → Batch → ℕ → ℕ
actual w b c = sum_to (record_of b c).count (λ i. (entry_of w.books (listed_number b c i)).capacity.0)

-- 01: "Ideal 0: views copied, list not attached. Actual > 2 x ideal: compact. .. Otherwise: .. attach the whole list"
unfoldable pub way_of : ℕ → ℕ → Way
way_of id ac = cond (eqb id 0) Way.Copied (cond (ltb (2 * id) ac) Way.Compacted Way.Attached)

unfoldable pub way : World → Batch → ℕ → Way
way w b c = way_of (ideal w b c) (actual w b c)
