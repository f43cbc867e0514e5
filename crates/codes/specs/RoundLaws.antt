-- The round trip: a state that is encoded is coded, and is the state that its bytes code.
use Rattle.counts.specs.declared.BufferNumber.{BufferNumber}
use Rattle.counts.specs.declared.RowCount.{RowCount}
use Rattle.std.specs.Prelude.{Option, Some, None}
use Rattle.std.specs.Prelude.{ℕ, zero, suc, ◌+◌, ◌*◌, ◌/◌, ◌%◌, ◌≤◌, ◌<◌, ◌^◌, ◌≡◌, refl, Bool, true, false, cond, List, [], ◌∷◌, ◌++◌, length, take, get_or, eqb}
use Rattle.std.proofs.Common.{sym, ◌∙◌, arith, length-append, take-suc, take_all, get_or-append-add, eq-eqb}
use Rattle.std.proofs.Math.Decide.{dec_lt}
use Rattle.std.proofs.Math.ListN.{get_or-append}
use Rattle.search.specs.Every.{every_is}
use Rattle.search.specs.Cases.{both}
use Rattle.words.specs.Word.{word_of, word32}
use Rattle.words.specs.WordLaws.{Bytes, word32_lt}
use Rattle.state.specs.declared.BatchCoalescer.{BatchCoalescer}
use Rattle.state.specs.World.{no_column, column_of}
use Rattle.codes.specs.TakeLaws.{length-columns_in, get_d_columns_in}
use Rattle.codes.specs.Code.{
  state_bytes,
  bytes_of,
  limit_flag,
  limit_number,
  limit_words,
  block_flag,
  block_number,
  block_words,
  column_words,
  columns_words,
  set_up_words,
  count_words,
  words_of,
  code_of,
  is_flagged,
  limit_in,
  block_in,
  column_place,
  column_in,
  columns_in,
  state_in,
  is_column_coded,
  is_coded,
  decoded,
  ColumnFits,
  Words,
}

-- the bytes of words: four for each, and the words read back
pub length_bytes_of : (ws : List ℕ) → length (bytes_of ws) ≡ 4 * length ws
unfolding bytes_of
length_bytes_of [] = refl
length_bytes_of (w ∷ ws) = omega (arith, length_bytes_of ws)

word_bytes_lem : (w : ℕ) → w < 2 ^ 32 → word_of (w % 256) (w / 256 % 256) (w / 65536 % 256) (w / 16777216) ≡ w
unfolding word_of
word_bytes_lem w h = omega arith

byte-behind : (a b c d : ℕ) (l : List ℕ) (i j : ℕ) → i ≡ 4 + j → get_or (a ∷ b ∷ c ∷ d ∷ l) i 0 ≡ get_or l j 0
byte-behind a b c d l i j e =
    let s : i ≡ suc (suc (suc (suc j))) = omega arith in
    rw s

word_behind : (a b c d : ℕ) (l : List ℕ) (i j : ℕ) → i ≡ 4 + j → word32 (a ∷ b ∷ c ∷ d ∷ l) i ≡ word32 l j
unfolding word32
word_behind a b c d l i j e =
    rw (
      byte-behind a b c d l i j e,
      byte-behind a b c d l (i + 1) (j + 1) (omega arith),
      byte-behind a b c d l (i + 2) (j + 2) (omega arith),
      byte-behind a b c d l (i + 3) (j + 3) (omega arith),
    )

word_none : (i : ℕ) → word32 [] i ≡ 0
unfolding word32 word_of
word_none i = refl

word_first : (w : ℕ) (ws : List ℕ) → w < 2 ^ 32 → word32 (bytes_of (w ∷ ws)) 0 ≡ w
unfolding bytes_of word32
word_first w ws h = word_bytes_lem w h

pub word_bytes_of : (ws : List ℕ) (k : ℕ) → get_or ws k 0 < 2 ^ 32 → word32 (bytes_of ws) (4 * k) ≡ get_or ws k 0
unfolding bytes_of
word_bytes_of [] k h = word_none (4 * k)
word_bytes_of (w ∷ ws) zero h = word_first w ws h
word_bytes_of (w ∷ ws) (suc k) h = word_behind (w % 256) (w / 256 % 256) (w / 65536 % 256) (w / 16777216) (bytes_of ws) (4 * suc k) (4 * k) (omega arith) ∙ word_bytes_of ws k h

-- the words of the first n columns, by number
pub length-columns_words : (s : BatchCoalescer) (n : ℕ) → length (columns_words s n) ≡ 4 * n
unfolding columns_words column_words block_words
length-columns_words s zero = refl
length-columns_words s (suc n) =
    length-append (columns_words s n) (column_words (column_of s n)) ∙ omega (arith, length-columns_words s n)

-- word j of column c
column_word : (s : BatchCoalescer) (n c j : ℕ) → c < n → j < 4 → get_or (columns_words s n) (4 * c + j) 0 ≡ get_or (column_words (column_of s c)) j 0
unfolding columns_words
column_word s zero c j h k = absurd (omega arith)
column_word s (suc n) c j h k = go (column_word s n c j) (dec_lt c n)
  where
    go : (c < n → j < 4 → get_or (columns_words s n) (4 * c + j) 0 ≡ get_or (column_words (column_of s c)) j 0) → Dec (c < n) → get_or (columns_words s n ++ column_words (column_of s n)) (4 * c + j) 0 ≡ get_or (column_words (column_of s c)) j 0
    go r (yes l) =
        get_or-append (columns_words s n) (column_words (column_of s n)) 0 (4 * c + j) (omega (arith, length-columns_words s n)) ∙ r l k
    go r (no l) =
        let e : c ≡ n = omega arith in
        let i : 4 * c + j ≡ length (columns_words s n) + j = omega (arith, length-columns_words s n) in
        rw (i, e) (get_or-append-add (columns_words s n) (column_words (column_of s n)) j 0)

-- the words of a state by number: the 12, and those of the columns
pub length_words_of : (s : BatchCoalescer) → length (words_of s) ≡ 76
unfolding words_of set_up_words limit_words count_words
length_words_of s = omega (arith, length-columns_words s 16)

pub length_code_of : (s : BatchCoalescer) → length (code_of s) ≡ state_bytes
unfolding code_of
length_code_of s = length_bytes_of (words_of s) ∙ omega (arith, length_words_of s)

word_code : (s : BatchCoalescer) (k : ℕ) → get_or (words_of s) k 0 < 2 ^ 32 → word32 (code_of s) (4 * k) ≡ get_or (words_of s) k 0
unfolding code_of
word_code s k h = word_bytes_of (words_of s) k h

words_column : (s : BatchCoalescer) (c j : ℕ) → c < 16 → j < 4 → get_or (words_of s) (12 + (4 * c + j)) 0 ≡ get_or (column_words (column_of s c)) j 0
unfolding words_of set_up_words limit_words count_words
words_column s c j h k =
    get_or-append-add (set_up_words s ++ limit_words s.limit ++ count_words s) (columns_words s 16) (4 * c + j) 0 ∙ column_word s 16 c j h k

code-column : (s : BatchCoalescer) (c j i v : ℕ) → c < 16 → j < 4 → i ≡ column_place c + 4 * j → get_or (column_words (column_of s c)) j 0 ≡ v → v < 2 ^ 32 → word32 (code_of s) i ≡ v
code-column s c j i v h k e f l =
    let n : i ≡ 4 * (12 + (4 * c + j)) = omega arith in
    let w : get_or (words_of s) (12 + (4 * c + j)) 0 ≡ v = words_column s c j h k ∙ f in
    rw n (word_code s (12 + (4 * c + j)) (omega arith) ∙ w)

-- a limit and a block read back
limit_same : (l : Option RowCount) → limit_in (limit_flag l) (limit_number l) ≡ l
unfolding limit_in limit_flag limit_number
limit_same (Some most) = refl
limit_same None = refl

block_same : (o : Option BufferNumber) → block_in (block_flag o) (block_number o) ≡ o
unfolding block_in block_flag block_number
block_same (Some k) = refl
block_same None = refl

limit_flag_lem : (l : Option RowCount) → limit_flag l < 2 ^ 32
unfolding limit_flag
limit_flag_lem (Some most) = omega arith
limit_flag_lem None = omega arith

block_flag_lem : (o : Option BufferNumber) → block_flag o < 2 ^ 32
unfolding block_flag
block_flag_lem (Some k) = omega arith
block_flag_lem None = omega arith

-- a column reads back
column-same : (s : BatchCoalescer) (c : ℕ) → c < 16 → ColumnFits (column_of s c) → column_in (code_of s) c ≡ column_of s c
unfolding column_in column_words block_words
column-same s c h f =
    rw (
      code-column s c 0 (column_place c) (column_of s c).kind h (omega arith) (omega arith) refl f.kind_fits,
      code-column s c 1 (column_place c + 4) (column_of s c).source.current.0 h (omega arith) (omega arith) refl f.current_fits,
      code-column s c 2 (column_place c + 8) (block_flag (column_of s c).block) h (omega arith) (omega arith) refl (block_flag_lem (column_of s c).block),
      code-column s c 3 (column_place c + 12) (block_number (column_of s c).block) h (omega arith) (omega arith) refl f.block_fits,
      block_same (column_of s c).block,
    )

columns_same : (s : BatchCoalescer) → Words s → (n : ℕ) → n ≤ 16 → columns_in (code_of s) n ≡ take n s.column
unfolding columns_in column_of
columns_same s w zero h = refl
columns_same s w (suc n) h =
    rw (columns_same s w n (omega arith), column-same s n (omega arith) (w.column_fits n (omega arith)))
    (sym (take-suc s.column n no_column (omega (arith, w.sixteen))))

-- the round trip from a state: encoding, then decoding
pub state_code : (s : BatchCoalescer) → Words s → state_in (code_of s) ≡ s
unfolding state_in words_of set_up_words limit_words count_words
state_code s w =
    rw (
      word_code s 0 w.target_fits,
      word_code s 1 w.rows-fits,
      word_code s 2 w.queue_fits,
      word_code s 3 w.columns_fits,
      word_code s 4 w.lists_fits,
      word_code s 5 w.numbers-fits,
      word_code s 6 w.pool-fits,
      word_code s 7 (limit_flag_lem s.limit),
      word_code s 8 w.limit_fits,
      word_code s 9 w.place-fits,
      word_code s 10 w.queued_fits,
      word_code s 11 w.buffered_fits,
      limit_same s.limit,
      columns_same s w 16 (omega arith),
      take_all 16 s.column (omega (arith, w.sixteen)),
    )

-- what is encoded is coded: a flag is 0 or 1, and beside a 0 stands a 0
limit_flagged : (l : Option RowCount) (x y : ℕ) → x ≡ limit_flag l → (limit_number l < 2 ^ 32 → y ≡ limit_number l) → is_flagged x y ≡ true
unfolding is_flagged limit_flag limit_number
limit_flagged (Some most) x y e f = rw e
limit_flagged None x y e f = rw (e, f (omega arith))

block_flagged : (o : Option BufferNumber) (x y : ℕ) → x ≡ block_flag o → (block_number o < 2 ^ 32 → y ≡ block_number o) → is_flagged x y ≡ true
unfolding is_flagged block_flag block_number
block_flagged (Some k) x y e f = rw e
block_flagged None x y e f = rw (e, f (omega arith))

column-coded : (s : BatchCoalescer) (c : ℕ) → c < 16 → is_column_coded (code_of s) c ≡ true
unfolding is_column_coded column_words block_words
column-coded s c h =
    block_flagged (column_of s c).block (word32 (code_of s) (column_place c + 8)) (word32 (code_of s) (column_place c + 12))
    (code-column s c 2 (column_place c + 8) (block_flag (column_of s c).block) h (omega arith) (omega arith) refl (block_flag_lem (column_of s c).block))
    (λ f. code-column s c 3 (column_place c + 12) (block_number (column_of s c).block) h (omega arith) (omega arith) refl f)

pub code-coded : (s : BatchCoalescer) → is_coded (code_of s) ≡ true
unfolding is_coded words_of set_up_words limit_words
code-coded s =
    both
    (limit_flagged s.limit (word32 (code_of s) 28) (word32 (code_of s) 32) (word_code s 7 (limit_flag_lem s.limit)) (λ f. word_code s 8 f))
    (every_is (is_column_coded (code_of s)) 16 (column-coded s))

-- what decode answers of what encode wrote
pub decoded-code : (s : BatchCoalescer) → Words s → decoded (code_of s) ≡ record { number = 0; state = s }
unfolding decoded
decoded-code s w = rw (eq-eqb (length (code_of s)) state_bytes (length_code_of s), code-coded s, state_code s w)

-- the state that bytes code has words
limit_number_lem : (f w : ℕ) → w < 2 ^ 32 → limit_number (limit_in f w) < 2 ^ 32
unfolding limit_number limit_in
limit_number_lem f w h = go (eqb f 0)
  where
    go : (t : Bool) → limit_number (cond t None (Some (record { 0 = w }))) < 2 ^ 32
    go true = omega arith
    go false = h

block_number_lem : (f w : ℕ) → w < 2 ^ 32 → block_number (block_in f w) < 2 ^ 32
unfolding block_number block_in
block_number_lem f w h = go (eqb f 0)
  where
    go : (t : Bool) → block_number (cond t None (Some (record { 0 = w }))) < 2 ^ 32
    go true = omega arith
    go false = h

column_words_lem : (b : List ℕ) (c : ℕ) → Bytes b → ColumnFits (column_in b c)
unfolding column_in
column_words_lem b c is =
    record {
      kind_fits = word32_lt b (column_place c) is;
      current_fits = word32_lt b (column_place c + 4) is;
      block_fits = block_number_lem (word32 b (column_place c + 8)) (word32 b (column_place c + 12)) (word32_lt b (column_place c + 12) is);
    }

pub state_words : (b : List ℕ) → Bytes b → Words (state_in b)
unfolding state_in column_of
state_words b is =
    record {
      target_fits = word32_lt b 0 is;
      rows-fits = word32_lt b 4 is;
      queue_fits = word32_lt b 8 is;
      columns_fits = word32_lt b 12 is;
      lists_fits = word32_lt b 16 is;
      numbers-fits = word32_lt b 20 is;
      pool-fits = word32_lt b 24 is;
      limit_fits = limit_number_lem (word32 b 28) (word32 b 32) (word32_lt b 32 is);
      place-fits = word32_lt b 36 is;
      queued_fits = word32_lt b 40 is;
      buffered_fits = word32_lt b 44 is;
      sixteen = length-columns_in b 16;
      column_fits = λ c h. rw (get_d_columns_in b 16 c h) (column_words_lem b c is);
    }

-- and so has a state of 16 columns whose code is of bytes, as what stands in a slice of the machine is: the last byte of a greater number is none
word_fits : (ws : List ℕ) (k : ℕ) → Bytes (bytes_of ws) → get_or ws k 0 < 2 ^ 32
unfolding bytes_of
word_fits [] k is = omega arith
word_fits (w ∷ ws) zero is = omega (arith, is.byte 3)
word_fits (w ∷ ws) (suc k) is =
    word_fits ws k (record { byte = λ i. omega (arith, is.byte (4 + i), byte-behind (w % 256) (w / 256 % 256) (w / 65536 % 256) (w / 16777216) (bytes_of ws) (4 + i) i refl) })

code_fits : (s : BatchCoalescer) (k : ℕ) → Bytes (code_of s) → get_or (words_of s) k 0 < 2 ^ 32
unfolding code_of
code_fits s k is = word_fits (words_of s) k is

code_column_fits : (s : BatchCoalescer) (c j v : ℕ) → c < 16 → j < 4 → Bytes (code_of s) → get_or (column_words (column_of s c)) j 0 ≡ v → v < 2 ^ 32
code_column_fits s c j v h k is e = omega (arith, code_fits s (12 + (4 * c + j)) is, words_column s c j h k, e)

pub code_words : (s : BatchCoalescer) → length s.column ≡ 16 → Bytes (code_of s) → Words s
unfolding words_of set_up_words limit_words count_words column_words block_words
code_words s n is =
    record {
      target_fits = code_fits s 0 is;
      rows-fits = code_fits s 1 is;
      queue_fits = code_fits s 2 is;
      columns_fits = code_fits s 3 is;
      lists_fits = code_fits s 4 is;
      numbers-fits = code_fits s 5 is;
      pool-fits = code_fits s 6 is;
      limit_fits = code_fits s 8 is;
      place-fits = code_fits s 9 is;
      queued_fits = code_fits s 10 is;
      buffered_fits = code_fits s 11 is;
      sixteen = n;
      column_fits = λ c h.
          record {
            kind_fits = code_column_fits s c 0 (column_of s c).kind h (omega arith) is refl;
            current_fits = code_column_fits s c 1 (column_of s c).source.current.0 h (omega arith) is refl;
            block_fits = code_column_fits s c 3 (block_number (column_of s c).block) h (omega arith) is refl;
          };
    }
