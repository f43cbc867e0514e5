-- The checks of a pushed batch, 2 to 7, in their order, with the first column and row at fault.
use Rattle.std.specs.Prelude.{ℕ, ◌+◌, ◌*◌, ◌/◌, Bool, true, false, ◌&&◌, not, cond, List, [], ◌∷◌, length, leb, eqb}
use Rattle.std.specs.Prelude.{Option, None, Some}
use Rattle.search.specs.First.{first}
use Rattle.search.specs.Every.{every}
use Rattle.search.specs.InOrder.{test, in_order}
use Rattle.words.specs.Word.{word32}
use Rattle.kinds.specs.Kind.{is_view}
use Rattle.views.specs.View.{is_valid}
use Rattle.pool.specs.Register.{is_held}
use Rattle.state.specs.World.{World, column_of}
use Rattle.state.specs.Layout.{width_of, is_views}
use Rattle.rules.specs.declared.ColumnRecord.{ColumnRecord}
use Rattle.rules.specs.declared.Fault.{Fault}
use Rattle.rules.specs.Batch.{Batch, record_of, has_bitmap, listed_bytes, row_view}

-- 4: "a record of the wrong kind or against its rules": its kind is the column's; "two words that are zero"; "No validity:
-- first bit 0. List count 0: list start 0. Non-view kinds have list count 0."
unfoldable pub is_ruled : ColumnRecord → ℕ → Bool
is_ruled r kind =
    eqb r.kind kind
    && (eqb r.spare 0
    && (eqb r.spare2 0
    && (cond (has_bitmap r) true (eqb r.first 0)
    && (cond (eqb r.count 0) (eqb r.list 0) true && cond (is_view kind) true (eqb r.count 0)))))

unfoldable pub keeps_rules : World → Batch → ℕ → Bool
keeps_rules w b c = is_ruled (record_of b c) (column_of w.state c).kind

-- n bytes from a start on lie in a body of so many; no bytes need no place
unfoldable pub in_body : ℕ → ℕ → ℕ → Bool
in_body start n body = cond (eqb n 0) true (leb (start + n) body)

-- the bytes of a bitmap from its start through the byte of the last row's bit; none for 0 rows
unfoldable pub bitmap_need : ℕ → ℕ → ℕ
bitmap_need first rows = cond (eqb rows 0) 0 ((first + rows + 7) / 8)

-- 5: "values, bitmap (from its start through the byte of the last row's bit) or list outside the body; 0 rows need no values
-- or bitmap bytes"
unfoldable pub lies_within : ColumnRecord → ℕ → ℕ → ℕ → Bool
lies_within r rows width body =
    in_body r.values (rows * width) body
    && (cond (has_bitmap r) (in_body r.validity (bitmap_need r.first rows) body) true && in_body r.list (4 * r.count) body)

unfoldable pub lies_in_body : World → Batch → ℕ → Bool
lies_in_body w b c = lies_within (record_of b c) b.rows (width_of w.state c) (length b.body)

-- 6: "a listed buffer that the caller does not hold": of the numbers listed from a place of the body on
unfoldable pub held_all : List ℕ → List ℕ → ℕ → ℕ → Bool
held_all books body list count = every (λ i. is_held books (word32 body (list + 4 * i))) count

unfoldable pub all_held : World → Batch → ℕ → Bool
all_held w b c = held_all w.books b.body (record_of b c).list (record_of b c).count

-- 7: "an invalid view": the first row whose view is not valid. 01: "Every row's view must be valid, null rows included."
unfoldable pub valid_row : World → Batch → ℕ → ℕ → Bool
valid_row w b c i =
    cond (is_views w.state c) (is_valid (row_view w b c i) (listed_bytes w b c) (record_of b c).count) true

unfoldable pub bad_row : World → Batch → ℕ → Option ℕ
bad_row w b c = first (λ i. not (valid_row w b c i)) b.rows

-- a fault of the batch at a column and a row
abbrev pub fault : ℕ → ℕ → ℕ → Option Fault
fault number column row = Some (record { number = number; column = column; row = row })

-- the fault as the code answers it: number 0 where there is none
abbrev pub fault_of : Option Fault → Fault
fault_of None = record { number = 0; column = 0; row = 0 }
fault_of (Some f) = f

abbrev pub row_fault : ℕ → Option ℕ → Option Fault
row_fault c None = None
row_fault c (Some i) = fault 7 c i

-- the first fault of column c. 01: "then per column 4, 5, 6, and 7 by rows"
unfoldable pub column_fault : World → Batch → ℕ → Option Fault
column_fault w b c =
    in_order
    (test (keeps_rules w b c) (fault 4 c 0) ∷ test (lies_in_body w b c) (fault 5 c 0) ∷ test (all_held w b c) (fault 6 c 0) ∷ [])
    (row_fault c (bad_row w b c))

abbrev pub is_fault : Option Fault → Bool
is_fault None = false
is_fault (Some f) = true

abbrev pub of_column : (ℕ → Option Fault) → Option ℕ → Option Fault
of_column f None = None
of_column f (Some c) = f c

-- the first fault of the batch. 01: "then 2, 3, then per column ..": 2 "record bytes not 32 x columns", 3 "rows over R"
unfoldable pub batch_fault : World → Batch → Option Fault
batch_fault w b =
    in_order
    (test (eqb (length b.records) (32 * w.state.columns)) (fault 2 0 0) ∷ test (leb b.rows w.state.rows.0) (fault 3 0 0) ∷ [])
    (of_column (column_fault w b) (first (λ c. is_fault (column_fault w b c)) w.state.columns))
