-- A part of a pushed column copied into the slot being filled: values, validity, and the three ways of views.
use Rattle.std.specs.Prelude.{ℕ, ◌+◌, ◌*◌, ◌-◌, List, Bool, true, false, cond, length, ltb, leb}
use Rattle.std.specs.Prelude.{Option, None, Some}
use Rattle.search.specs.First.{first}
use Rattle.words.specs.Run.{read, lay}
use Rattle.bits.specs.Bits.{appended}
use Rattle.blocks.specs.Block.{asked}
use Rattle.books.specs.Entry.{entry_of}
use Rattle.listings.specs.Listing.{listed_one, over_list}
use Rattle.sound.specs.Change.{with_length}
use Rattle.views.specs.declared.View.{View}
use Rattle.views.specs.View.{raised_by, repointed}
use Rattle.room.specs.Room.{Outcome, opened}
use Rattle.state.specs.declared.BatchCoalescer.{BatchCoalescer}
use Rattle.state.specs.World.{World, column_of}
use Rattle.state.specs.Layout.{width_of, is_views, bitmap_place, bitmap_bytes, list_place, cell_place, list_length}
use Rattle.rules.specs.declared.ColumnRecord.{ColumnRecord}
use Rattle.rules.specs.declared.Way.{Way}
use Rattle.rules.specs.Batch.{Batch, record_of, bit_of, listed_number, list_of, row_view, ideal, way}
use Rattle.rules.specs.Copies.{views_put, long_to, bytes_carried, starts_fit}
use Rattle.rules.specs.Steps.{Res, ok, refuse, bind, for_each, with_column, in_state, in_slots, in_books, counting, listing}
use Rattle.std.specs.Prelude.{Result, Ok, Err}
use Rattle.counts.specs.declared.BufferNumber.{BufferNumber}
use Rattle.room.specs.declared.Room.{Room}

-- the slot being filled
abbrev pub filling : World → ℕ
filling w = w.state.place

-- rows of one column, and where they go: `count` rows of it, from row `from` of the batch on, to row `at` of the slot on
pub data Span : Type 0 where
  span : (column at from count : ℕ) → Span

-- ---- validity and values

-- slots with the bits of a span behind the `at` rows that a slot has. 01: "spare bits of the last
-- bitmap byte are zero"; ones where there is no bitmap (DECISIONS 9)
unfoldable pub bits_laid : BatchCoalescer → List ℕ → ColumnRecord → List ℕ → ℕ → Span → List ℕ
bits_laid s slots r body slot (span c at from n) =
    lay (bitmap_place s slot c)
    (appended (read (bitmap_place s slot c) (bitmap_bytes s) slots) at (λ i. bit_of r body (from + i)) n)
    slots

-- and their bytes as they stand in the body. 01: "Values under null rows are copied too."
unfoldable pub values_laid : BatchCoalescer → List ℕ → ColumnRecord → List ℕ → ℕ → Span → List ℕ
values_laid s slots r body slot (span c at from n) =
    lay (cell_place s slot c at) (read (r.values + from * width_of s c) (n * width_of s c) body) slots

-- the same of worlds
unfoldable pub bits_copied : World → Batch → ℕ → Span → World
bits_copied w b slot (span c at from n) =
    in_slots w (bits_laid w.state w.slots (record_of b c) b.body slot (span c at from n))

unfoldable pub values_copied : World → Batch → ℕ → Span → World
values_copied w b slot (span c at from n) =
    in_slots w (values_laid w.state w.slots (record_of b c) b.body slot (span c at from n))

-- ---- blocks

abbrev pub has_block : Option BufferNumber → Bool
has_block (Some k) = true
has_block None = false

abbrev pub block_number : Option BufferNumber → ℕ
block_number (Some k) = k.0
block_number None = 0

-- column c's open block, its number, and the rest of it: capacity less filled length
abbrev pub is_open : World → ℕ → Bool
is_open w c = has_block (column_of w.state c).block

unfoldable pub open_number : World → ℕ → ℕ
open_number w c = block_number (column_of w.state c).block

unfoldable pub open_filled : World → ℕ → ℕ
open_filled w c = (entry_of w.books (open_number w c)).length.0

unfoldable pub open_rest : World → ℕ → ℕ
open_rest w c = (entry_of w.books (open_number w c)).capacity.0 - open_filled w c

-- the open block joins its list, if there is one. 01: "close the open block" (DECISIONS 7: nothing shrinks)
unfoldable pub closed : World → ℕ → World
closed w c =
    cond (is_open w c)
    (in_state (listing w (filling w) c (open_number w c))
    (with_column w.state c (column_of w.state c).source None))
    w

-- a block opened for a minimum. 01: "Opening a block tests 10, 11, 12"; 10 where the list and the block would pass B (DECISIONS 3)
abbrev pub opening : World → ℕ → ℕ → Outcome → Res
opening w c min o =
    by_answer o.answer
  where
    by_answer : Result Room ℕ → Res
    by_answer (Err number) = refuse number
    by_answer (Ok r) =
        ok
        (in_state (in_books w o.books)
        (with_column w.state c (asked (column_of w.state c).source (record { 0 = min })).source (Some r.number)))

unfoldable pub block_opened : World → ℕ → ℕ → Res
block_opened w c min =
    cond (leb (list_length w (filling w) c + 1) w.state.lists)
    (opening w c min
    (opened w.books w.state.numbers (length w.pool) (asked (column_of w.state c).source (record { 0 = min })).size.0))
    (refuse 10)

-- ---- views into the open block

-- where the bytes of a long view lie in the pool: in its list's buffer, from the offset on
unfoldable pub source_place : World → Batch → ℕ → View → ℕ
source_place w b c v = (entry_of w.books (listed_number b c v.index)).start + v.offset

-- the views of the batch from row `from` on
abbrev pub views_from : World → Batch → ℕ → ℕ → ℕ → View
views_from w b c from i = row_view w b c (from + i)

-- the bytes of the long ones among the first k views from `from` on
unfoldable pub long_before : World → Batch → ℕ → ℕ → ℕ → ℕ
long_before w b c from k = long_to (views_from w b c from) k

-- the views of a span. Inline ones stand as they are; the bytes of long ones go into the open block at its
-- filled length, one behind the other. 01: "Copied bytes go into the open block at its filled length."; "Long views get the new index and
-- offset."
unfoldable pub views_compacted : World → Batch → Span → Res
views_compacted w b (span c at from n) =
    cond (starts_fit (views_from w b c from) (open_filled w c) n)
    (ok
    (record {
      state = w.state;
      slots =
          views_put
          (λ i. repointed (list_length w (filling w) c) (open_filled w c + long_before w b c from i) (row_view w b c (from + i)))
          w.slots
          (cell_place w.state (filling w) c at)
          n;
      pool =
          bytes_carried (views_from w b c from) (source_place w b c) w.pool
          ((entry_of w.books (open_number w c)).start + open_filled w c)
          n;
      books = with_length w.books (open_number w c) (open_filled w c + long_before w b c from n);
    }))
    (refuse 8)

-- how many of the n views from `from` on the walk takes. 01: "walk the part's views while the rest is at least the length (lengths
-- over 12 lower the rest)": the first view that is longer than what the long ones before it leave, or all of them
abbrev pub or_all : ℕ → Option ℕ → ℕ
or_all n None = n
or_all n (Some i) = i

unfoldable pub walked : World → Batch → ℕ → ℕ → ℕ → ℕ → ℕ
walked w b c from n rest =
    or_all n (first (λ i. ltb (rest - long_before w b c from i) (row_view w b c (from + i)).length) n)

-- 01: "No open block: open one of size for ideal. Ideal fits the open block's rest: use it. Else walk .., copy those, close the
-- block, open one for ideal minus bytes copied, copy the remainder there, even when it is empty."
unfoldable pub part_compacted : World → Batch → Span → Res
part_compacted w b (span c at from n) =
    cond (is_open w c) (cond (leb (ideal w b c) (open_rest w c)) used (split (walked w b c from n (open_rest w c)))) anew
  where
    -- "No open block: open one of size for ideal."
    anew : Res
    anew = bind (block_opened w c (ideal w b c)) (λ v. views_compacted v b (span c at from n))

    -- "Ideal fits the open block's rest: use it."
    used : Res
    used = views_compacted w b (span c at from n)

    -- "Else walk ..": its first k views there, the remainder in a second block
    split : ℕ → Res
    split k =
        bind (views_compacted w b (span c at from k)) (λ v.
        bind (block_opened (closed v c) c (ideal w b c - long_before w b c from k)) (λ u.
        views_compacted u b (span c (at + k) (from + k) (n - k))))

-- ---- views attached

-- the whole list behind what is there, each number listed once more, as often as it stands there
unfoldable pub list_attached : World → Batch → ℕ → World
list_attached w b c =
    counting
    (in_books (in_slots w (lay (list_place w.state (filling w) c + 4 * list_length w (filling w) c) (list_of b c) w.slots))
    (over_list listed_one w.books (list_of b c) (record_of b c).count))
    (filling w)
    (c + 1)
    (list_length w (filling w) c + (record_of b c).count)

-- the views of a span, with k added to the index of long ones
unfoldable pub views_raised : World → Batch → ℕ → Span → World
views_raised w b k (span c at from n) =
    in_slots w
    (views_put (λ i. raised_by k (row_view w b c (from + i))) w.slots (cell_place w.state (filling w) c at) n)

-- 01: "Otherwise: close the open block, attach the whole list, add the earlier list length to the index of long views only.";
-- "Attaching tests 10, the block it closes counted."
unfoldable pub part_attached : World → Batch → Span → Res
part_attached w b (span c at from n) =
    cond (leb (list_length (closed w c) (filling w) c + (record_of b c).count) w.state.lists)
    (ok (views_raised (list_attached (closed w c) b c) b (list_length (closed w c) (filling w) c) (span c at from n)))
    (refuse 10)

-- ---- a part of a column, and of every column

abbrev pub by_way : World → Batch → Span → Way → Res
by_way w b p Way.Copied = ok (values_copied w b (filling w) p)
by_way w b p Way.Attached = part_attached w b p
by_way w b p Way.Compacted = part_compacted w b p

-- n rows of column c from row `from` on, behind those buffered. w₀ is the world at the push: 01's "over the whole pushed column" (DECISIONS
-- 5: decided once, done per part)
unfoldable pub column_copied : World → World → Batch → ℕ → ℕ → ℕ → Res
column_copied w₀ w b c from n =
    by_way (bits_copied w b (filling w) (span c w.state.buffered.0 from n)) b (span c w.state.buffered.0 from n)
    (cond (is_views w.state c) (way w₀ b c) Way.Copied)

-- 01: "copy that many into every column in order"; the rows are then buffered
unfoldable pub part_copied : World → World → Batch → ℕ → ℕ → Res
part_copied w₀ w b from n = for_each w.state.columns (λ v c. column_copied w₀ v b c from n) w
