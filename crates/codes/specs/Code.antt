-- The state as bytes, and bytes as a state: docs/LAYOUT.md, "State".
use Rattle.std.specs.Prelude.{ℕ, zero, suc, ◌+◌, ◌*◌, ◌/◌, ◌%◌, ◌<◌, ◌^◌, ◌≡◌, Bool, cond, ◌&&◌, List, [], ◌∷◌, ◌++◌, length, replicate, eqb}
use Rattle.words.specs.Word.{word32, with_word32}
use Rattle.search.specs.Every.{every}
use Rattle.state.specs.declared.BatchCoalescer.{BatchCoalescer}
use Rattle.state.specs.declared.Column.{Column}
use Rattle.state.specs.World.{no_column, column_of}
use Rattle.codes.specs.declared.Coded.{Coded}
use Rattle.std.specs.Prelude.{Option, Some, None}
use Rattle.counts.specs.declared.BufferNumber.{BufferNumber}
use Rattle.counts.specs.declared.RowCount.{RowCount}

-- the bytes of a coded state, and where its columns begin: 12 words, then four for each of 16 columns
abbrev pub state_bytes : ℕ
state_bytes = 304

abbrev pub columns_at : ℕ
columns_at = 48

-- ---- a state as bytes

-- a limit and an open block as two words: a flag, and the number or 0
unfoldable pub limit_flag : Option RowCount → ℕ
limit_flag (Some most) = 1
limit_flag None = 0

unfoldable pub limit_number : Option RowCount → ℕ
limit_number (Some most) = most.0
limit_number None = 0

unfoldable pub limit_words : Option RowCount → List ℕ
limit_words l = limit_flag l ∷ limit_number l ∷ []

unfoldable pub block_flag : Option BufferNumber → ℕ
block_flag (Some k) = 1
block_flag None = 0

unfoldable pub block_number : Option BufferNumber → ℕ
block_number (Some k) = k.0
block_number None = 0

unfoldable pub block_words : Option BufferNumber → List ℕ
block_words o = block_flag o ∷ block_number o ∷ []

-- the four words of a column, and those of the first n columns
unfoldable pub column_words : Column → List ℕ
column_words d = d.kind ∷ d.source.current.0 ∷ block_words d.block

unfoldable pub columns_words : BatchCoalescer → ℕ → List ℕ
columns_words s zero = []
columns_words s (suc c) = columns_words s c ++ column_words (column_of s c)

-- words 0 to 6, what set-up fixed; words 9 to 11, what calls change
unfoldable pub set_up_words : BatchCoalescer → List ℕ
set_up_words s = s.target.0 ∷ s.rows.0 ∷ s.queue ∷ s.columns ∷ s.lists ∷ s.numbers ∷ s.pool.0 ∷ []

unfoldable pub count_words : BatchCoalescer → List ℕ
count_words s = s.place ∷ s.queued ∷ s.buffered.0 ∷ []

-- the words of a state: 12, and four for each of 16 columns
unfoldable pub words_of : BatchCoalescer → List ℕ
words_of s = set_up_words s ++ limit_words s.limit ++ count_words s ++ columns_words s 16

-- words as bytes, the lowest byte of each first
unfoldable pub bytes_of : List ℕ → List ℕ
bytes_of [] = []
bytes_of (w ∷ ws) = w % 256 ∷ w / 256 % 256 ∷ w / 65536 % 256 ∷ w / 16777216 ∷ bytes_of ws

-- the bytes that code a state
unfoldable pub code_of : BatchCoalescer → List ℕ
code_of s = bytes_of (words_of s)

-- the bytes of a state with another limit: its two words, and every other byte as it was
unfoldable pub limited : Option RowCount → List ℕ → List ℕ
limited l b = with_word32 (with_word32 b 28 (limit_flag l)) 32 (limit_number l)

-- each number of a column is a word
pub record ColumnFits (d : Column) : Type 0 where
  pub kind_fits : d.kind < 2 ^ 32
  pub current_fits : d.source.current.0 < 2 ^ 32
  pub block_fits : block_number d.block < 2 ^ 32

-- each number of a state is a word, and it has 16 columns. Every value of the struct is so: encode's contract says it
pub record Words (s : BatchCoalescer) : Type 0 where
  pub target_fits : s.target.0 < 2 ^ 32
  pub rows-fits : s.rows.0 < 2 ^ 32
  pub queue_fits : s.queue < 2 ^ 32
  pub columns_fits : s.columns < 2 ^ 32
  pub lists_fits : s.lists < 2 ^ 32
  pub numbers-fits : s.numbers < 2 ^ 32
  pub pool-fits : s.pool.0 < 2 ^ 32
  pub limit_fits : limit_number s.limit < 2 ^ 32
  pub place-fits : s.place < 2 ^ 32
  pub queued_fits : s.queued < 2 ^ 32
  pub buffered_fits : s.buffered.0 < 2 ^ 32
  pub sixteen : length s.column ≡ 16
  pub column_fits : (c : ℕ) → c < 16 → ColumnFits (column_of s c)

-- ---- bytes as a state

-- a flag is 0 or 1, and the word beside a 0 is 0
unfoldable pub is_flagged : ℕ → ℕ → Bool
is_flagged flag word = cond (eqb flag 0) (eqb word 0) (eqb flag 1)

unfoldable pub limit_in : ℕ → ℕ → Option RowCount
limit_in flag word = cond (eqb flag 0) None (Some (record { 0 = word }))

unfoldable pub block_in : ℕ → ℕ → Option BufferNumber
block_in flag word = cond (eqb flag 0) None (Some (record { 0 = word }))

-- column c, and the first n columns
abbrev pub column_place : ℕ → ℕ
column_place c = columns_at + 16 * c

unfoldable pub column_in : List ℕ → ℕ → Column
column_in b c =
    record {
      kind = word32 b (column_place c);
      source = record { current = record { 0 = word32 b (column_place c + 4) } };
      block = block_in (word32 b (column_place c + 8)) (word32 b (column_place c + 12));
    }

unfoldable pub columns_in : List ℕ → ℕ → List Column
columns_in b zero = []
columns_in b (suc c) = columns_in b c ++ (column_in b c ∷ [])

-- the state that bytes hold, whatever they are: a flag that is not 0 is set
unfoldable pub state_in : List ℕ → BatchCoalescer
state_in b =
    record {
      target = record { 0 = word32 b 0 };
      rows = record { 0 = word32 b 4 };
      queue = word32 b 8;
      columns = word32 b 12;
      lists = word32 b 16;
      numbers = word32 b 20;
      pool = record { 0 = word32 b 24 };
      limit = limit_in (word32 b 28) (word32 b 32);
      place = word32 b 36;
      queued = word32 b 40;
      buffered = record { 0 = word32 b 44 };
      column = columns_in b 16;
    }

-- whether column c is coded, and whether bytes code a state
unfoldable pub is_column_coded : List ℕ → ℕ → Bool
is_column_coded b c = is_flagged (word32 b (column_place c + 8)) (word32 b (column_place c + 12))

unfoldable pub is_coded : List ℕ → Bool
is_coded b = is_flagged (word32 b 28) (word32 b 32) && every (is_column_coded b) 16

-- ---- what decoding answers

-- the state of zeros, of bytes that are not 304
unfoldable pub zero_state : BatchCoalescer
zero_state =
    record {
      target = record { 0 = 0 };
      rows = record { 0 = 0 };
      queue = 0;
      columns = 0;
      lists = 0;
      numbers = 0;
      pool = record { 0 = 0 };
      limit = None;
      place = 0;
      queued = 0;
      buffered = record { 0 = 0 };
      column = replicate 16 no_column;
    }

-- the state that 304 bytes hold, and 14 beside it where they do not code it; 1 where they are not so many
unfoldable pub decoded : List ℕ → Coded
decoded b =
    cond (eqb (length b) state_bytes)
    (record { number = cond (is_coded b) 0 14; state = state_in b })
    (record { number = 1; state = zero_state })
