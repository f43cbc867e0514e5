-- What the checks ask of books and pool, and the parts of the checks of a column that stand in functions of their own.
use Rattle.std.specs.Prelude.{ℕ, ◌+◌, ◌*◌, ◌≤◌, ◌<◌, ◌≡◌, Bool, not, true, cond, ◌&&◌, List, length, eqb, Option, Some, None}
use Rattle.std.specs.Prelude.{Option as Lowest, None, Some}
use Rattle.search.specs.First.{first}
use Rattle.books.specs.Entry.{used_of, entry_of}
use Rattle.pool.specs.Register.{is_held}
use Rattle.words.specs.Word.{word32}
use Rattle.kinds.specs.Kind.{is_view}
use Rattle.views.specs.declared.Buffer.{Buffer}
use Rattle.views.specs.View.{view_of, is_valid}
use Rattle.rules.specs.declared.ColumnRecord.{ColumnRecord}
use Rattle.rules.specs.Batch.{has_bitmap, bytes_listed}
use Rattle.rules.specs.Checks.{in_body, bitmap_need}

-- 4: the rules of validity and of the list, as `is_ruled` has them
unfoldable pub bit_ruled : ColumnRecord → Bool
bit_ruled r = cond (has_bitmap r) true (eqb r.first 0)

unfoldable pub list_ruled : ColumnRecord → ℕ → Bool
list_ruled r kind = cond (eqb r.count 0) (eqb r.list 0) true && cond (is_view kind) true (eqb r.count 0)

-- 5: the bitmap in the body, as `lies_within` has it
unfoldable pub bits_within : ColumnRecord → ℕ → ℕ → Bool
bits_within r rows size = cond (has_bitmap r) (in_body r.validity (bitmap_need r.first rows) size) true

-- the buffer of a number: where it lies in the pool
unfoldable pub buffer_in : List ℕ → ℕ → Buffer
buffer_in books k =
    record { start = (entry_of books k).start; capacity = (entry_of books k).capacity; length = (entry_of books k).length }

-- 7: row i has a view that is not valid
unfoldable pub bad_at : List ℕ → List ℕ → List ℕ → ColumnRecord → ℕ → Bool
bad_at books pool body r i =
    not (is_valid (view_of body (r.values + i * 16)) (bytes_listed books pool body r.list) r.count)

-- the lowest number, as the code answers it
abbrev pub found : Lowest ℕ → Option ℕ
found None = None
found (Some i) = Some i

-- 7: the first of the rows whose view is not valid
unfoldable pub bad_in : List ℕ → List ℕ → List ℕ → ColumnRecord → ℕ → Option ℕ
bad_in books pool body r rows = found (first (bad_at books pool body r) rows)

-- books with an entry for each number in use, and every buffer of these within the pool
pub record Pooled (books pool : List ℕ) : Type 0 where
  pub room : 4 + 20 * used_of books ≤ length books
  pub inside : (k : ℕ) → k < used_of books → (entry_of books k).start + (entry_of books k).length.0 ≤ length pool

-- besides, the caller holds each of the numbers listed from a place of the body on
pub record Heeded (books pool body : List ℕ) (list count : ℕ) : Type 0 where
  pub pooled : Pooled books pool
  pub listed : list + 4 * count ≤ length body
  pub held : (i : ℕ) → i < count → is_held books (word32 body (list + 4 * i)) ≡ true
