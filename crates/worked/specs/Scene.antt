-- The worlds and batches of the worked examples: small courts, set up by the definitions and pushed to by them.
use Rattle.std.specs.Prelude.{ℕ, zero, suc, ◌+◌, ◌/◌, ◌%◌, List, [], ◌∷◌, ◌++◌, length, replicate}
use Rattle.std.specs.Prelude.{Option, None, Some}
use Rattle.words.specs.Word.{word_of}
use Rattle.words.specs.Run.{put}
use Rattle.books.specs.Entry.{used_of, entry_of}
use Rattle.listings.specs.Listing.{taken}
use Rattle.room.specs.Room.{entry_at}
use Rattle.state.specs.World.{World, column_of}
use Rattle.state.specs.Layout.{slots_length, books_length, list_length}
use Rattle.state.specs.Rows.{Cell, null, value, Row, up_to}
use Rattle.rules.specs.Batch.{Batch}
use Rattle.rules.specs.Steps.{in_state, in_books, buffering, with_limit, with_column}
use Rattle.rules.specs.Views.{part_copied}
use Rattle.rules.specs.Calls.{Answered, or_old, Wanted, new_state, set_up_call, push_call}
use Rattle.counts.specs.declared.BufferNumber.{BufferNumber}
use Rattle.counts.specs.declared.RowCount.{RowCount}

-- a word as its four bytes
unfoldable pub word_bytes : ℕ → List ℕ
word_bytes x = x % 256 ∷ x / 256 % 256 ∷ x / 65536 % 256 ∷ x / 16777216 % 256 ∷ []

unfoldable pub words_bytes : List ℕ → List ℕ
words_bytes [] = []
words_bytes (x ∷ xs) = word_bytes x ++ words_bytes xs

-- a fresh court: memories of zeros of the set-up lengths, set up
unfoldable pub fresh : Wanted → World
fresh a =
    (set_up_call a (replicate (slots_length (new_state a)) 0) (replicate a.pool 0) (replicate (books_length (new_state a)) 0)).world

-- rows numbered from k on, in one column of UInt8 with no bitmap
unfoldable pub numbers : ℕ → ℕ → List ℕ
numbers k zero = []
numbers k (suc n) = k ∷ numbers (suc k) n

unfoldable pub numbered : ℕ → ℕ → Batch
numbered k n =
    record { rows = n; records = words_bytes (5 ∷ 0 ∷ 4294967295 ∷ 0 ∷ 0 ∷ 0 ∷ 0 ∷ 0 ∷ []); body = numbers k n }

abbrev pub limit_for : Option ℕ → Option RowCount
limit_for None = None
limit_for (Some n) = Some (record { 0 = n })

-- a court with target T and a limit, after pushes of so many rows each, numbered through
unfoldable pub court : ℕ → Option ℕ → World
court target limit =
    let w = fresh (record { target = target; rows = 8; queue = 4; kinds = 5 ∷ []; lists = 1; numbers = 1; pool = 0 }) in
    in_state w (with_limit w.state (limit_for limit))

unfoldable pub pushes : World → ℕ → List ℕ → World
pushes w k [] = w
pushes w k (n ∷ ns) = pushes (push_call w (numbered k n)).world (k + n) ns

-- a row of one column as its bytes; a null row as none
unfoldable pub bytes_of_cell : Cell → List ℕ
bytes_of_cell null = []
bytes_of_cell (value bs) = bs

unfoldable pub bytes_of_row : Row → List ℕ
bytes_of_row [] = []
bytes_of_row (c ∷ cs) = bytes_of_cell c ++ bytes_of_row cs

unfoldable pub bytes_of_rows : List Row → List ℕ
bytes_of_rows [] = []
bytes_of_rows (r ∷ rs) = bytes_of_row r ++ bytes_of_rows rs

-- ---- one column of views

-- a court of one Utf8View column, T 8, with the pool and the numbers given
unfoldable pub view_court : ℕ → World
view_court pool = fresh (record { target = 8; rows = 8; queue = 2; kinds = 18 ∷ []; lists = 3; numbers = 4; pool = pool })

-- the sample bytes, which tell places apart
unfoldable pub sample : ℕ → ℕ
sample j = j % 251

-- buffer `number` of the caller's, from `start` on, of a capacity, filled with the first sample bytes
unfoldable pub holding : World → ℕ → ℕ → ℕ → ℕ → World
holding w number start capacity len =
    record {
      state = w.state;
      slots = w.slots;
      pool = put start (up_to len sample) w.pool;
      books = taken w.books number (entry_at start capacity len 1 0);
    }

-- an open block `number` of the column, filled so far, with the size that was last asked of it
unfoldable pub filled_block : World → ℕ → ℕ → ℕ → ℕ → World
filled_block w number start capacity len =
    let v = in_books w (taken w.books number (entry_at start capacity len 0 1)) in
    in_state v (with_column v.state 0 (record { current = record { 0 = capacity } }) (Some (record { 0 = number })))

-- long views of the given lengths, one behind the other from an offset of a buffer of sample bytes on: length, the first four bytes,
-- index 0, offset
unfoldable pub view_words : ℕ → List ℕ → List ℕ
view_words offset [] = []
view_words offset (n ∷ ns) =
    n
    ∷ word_of (sample offset) (sample (offset + 1)) (sample (offset + 2)) (sample (offset + 3))
    ∷ 0
    ∷ offset
    ∷ view_words (offset + n) ns

unfoldable pub viewed : ℕ → List ℕ → Batch
viewed number lengths =
    record {
      rows = length lengths;
      records = words_bytes (18 ∷ 4 ∷ 4294967295 ∷ 0 ∷ 0 ∷ 1 ∷ 0 ∷ 0 ∷ []);
      body = word_bytes number ++ words_bytes (view_words 0 lengths);
    }

-- where a buffer lies, and how far it is filled
pub record Extent : Type 0 where
  pub start : ℕ
  pub capacity : ℕ
  pub filled : ℕ

abbrev pub extent : ℕ → ℕ → ℕ → Extent
extent start capacity filled = record { start = start; capacity = capacity; filled = filled }

-- what a push of views leaves: its answer, the block size that the column keeps, how many buffers slot 0 lists, the number of the open block
-- where there is one, and each buffer in use
pub record Left : Type 0 where
  pub answer : ℕ
  pub kept : ℕ
  pub listed : ℕ
  pub block : Option ℕ
  pub buffers : List Extent

abbrev pub number_in : Option BufferNumber → Option ℕ
number_in None = None
number_in (Some k) = Some k.0

unfoldable pub left : Answered → Left
left a =
    let books = a.world.books in
    record {
      answer = a.number;
      kept = (column_of a.world.state 0).source.current.0;
      listed = list_length a.world 0 0;
      block = number_in (column_of a.world.state 0).block;
      buffers = up_to (used_of books) (λ i. extent (entry_of books i).start (entry_of books i).capacity.0 (entry_of books i).length.0);
    }

-- W10: a push of one view of 100 bytes whose list has one buffer of the capacity given, in a pool of so many bytes
unfoldable pub twice : ℕ → ℕ → Answered
twice capacity pool = push_call (holding (view_court pool) 0 0 capacity 100) (viewed 0 (100 ∷ []))

-- W11: one row buffered and an open block of 8,192 filled to 8,092; a push of views of 60, 50 and 20 bytes, whose list has one buffer
-- of capacity 300
unfoldable pub squeezed : Answered
squeezed =
    push_call (buffering (filled_block (holding (view_court 24876) 1 8192 300 130) 0 0 8192 8092) 1) (viewed 1 (60 ∷ 50 ∷ 20 ∷ []))

-- what is left is less than ideal: W11's open block and row buffered; the first two of four views, of 60, 50, 8,145 and 8,145 bytes of a buffer of zeros
-- that stands in the list five times (ideal 16,400, actual 40,960). The walk copies 60 bytes, so 16,340 are left. (The part alone: the other
-- two views would be 16,290 bytes to copy, too many to compute with.)
unfoldable pub zero_words : List ℕ → List ℕ
zero_words [] = []
zero_words (n ∷ ns) = n ∷ 0 ∷ 0 ∷ 0 ∷ zero_words ns

unfoldable pub five_times : ℕ → List ℕ → Batch
five_times number lengths =
    record {
      rows = length lengths;
      records = words_bytes (18 ∷ 20 ∷ 4294967295 ∷ 0 ∷ 0 ∷ 5 ∷ 0 ∷ 0 ∷ []);
      body = words_bytes (number ∷ number ∷ number ∷ number ∷ number ∷ zero_words lengths);
    }

unfoldable pub less_than_ideal : Answered
less_than_ideal =
    let u = view_court 32768 in
    let v = in_books u (taken u.books 1 (entry_at 8192 8192 8192 1 0)) in
    let w = buffering (filled_block v 0 0 8192 8092) 1 in
    or_old w (part_copied w w (five_times 1 (60 ∷ 50 ∷ 8145 ∷ 8145 ∷ [])) 0 2)

-- the last block is empty: seven rows buffered of eight, an open block with a rest of 20; a push of two views of 13 bytes, of which the
-- first takes the slot's last row. Ideal is 26, of the whole push, so the block is walked and closed, and a new one opened. (The open
-- block has 4,096 bytes, fewer than any that a history opens: a small pool is quicker to compute with.)
unfoldable pub last_block : Answered
last_block = push_call (buffering (filled_block (holding (view_court 28732) 1 4096 60 26) 0 0 4096 4076) 7) (viewed 1 (13 ∷ 13 ∷ []))

-- an inline view of eight letters, and a long one of 20 bytes
unfoldable pub mixed : ℕ → Batch
mixed number =
    record {
      rows = 2;
      records = words_bytes (18 ∷ 4 ∷ 4294967295 ∷ 0 ∷ 0 ∷ 1 ∷ 0 ∷ 0 ∷ []);
      body = word_bytes number ++ words_bytes (8 ∷ 1684234849 ∷ 1751606885 ∷ 0 ∷ view_words 0 (20 ∷ []));
    }

-- a list attached behind another
unfoldable pub behind : Answered
behind =
    let w = holding (holding (view_court 80) 0 0 40 40) 1 40 40 40 in
    push_call (push_call w (viewed 0 (20 ∷ []))).world (mixed 1)
