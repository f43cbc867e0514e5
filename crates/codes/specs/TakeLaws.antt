-- The bytes of a coded state are those of the state that they code.
use Rattle.std.specs.Prelude.{ℕ, zero, suc, ◌+◌, ◌*◌, ◌/◌, ◌%◌, ◌≤◌, ◌<◌, ◌≡◌, refl, Bool, true, false, cond, length, get_or, eqb}
use Rattle.std.proofs.Math.Path.{sym, ap}
use Rattle.std.proofs.Common.{◌∙◌, length-append, take-suc, take_all, eqb-true}
use Rattle.std.proofs.Math.Bool.{and-eq-true_iff}
use mathlib.Core.List.{List, [], ◌∷◌, ◌++◌}
use native.Mathlib.Omega.{arith}
use Rattle.std.proofs.Math.Decide.{dec_lt}
use Rattle.std.proofs.Math.ListN.{take, get_or-append}
use Rattle.std.proofs.lemmas.List.{get_or_at}
use Rattle.search.specs.Every.{every, every-says}
use Rattle.words.specs.Word.{word_of, word32}
use Rattle.words.specs.WordLaws.{Bytes}
use Rattle.state.specs.declared.Column.{Column}
use Rattle.state.specs.World.{no_column}
use Rattle.codes.specs.Code.{
  state_bytes,
  columns_at,
  bytes_of,
  limit_flag,
  limit_number,
  limit_words,
  block_flag,
  block_number,
  block_words,
  column_words,
  columns_words,
  count_words,
  code_of,
  is_flagged,
  limit_in,
  block_in,
  column_place,
  column_in,
  columns_in,
  state_in,
  is_column_coded,
  is_coded,
}
use Rattle.codes.specs.PutLaws.{four, words_behind, set_up_put, column-put, columns_put_none, columns_put_more, state_put}
use Rattle.std.specs.Prelude.{Some, None}

-- the four bytes of the word of four bytes
byte_0 : (a b c d : ℕ) → a < 256 → word_of a b c d % 256 ≡ a
unfolding word_of
byte_0 a b c d h = omega arith

byte_1 : (a b c d : ℕ) → a < 256 → b < 256 → word_of a b c d / 256 % 256 ≡ b
unfolding word_of
byte_1 a b c d h k =
    let q : word_of a b c d / 256 ≡ b + (c + d * 256) * 256 = omega arith in
    rw q (omega arith)

byte_2 : (a b c d : ℕ) → a < 256 → b < 256 → c < 256 → word_of a b c d / 65536 % 256 ≡ c
unfolding word_of
byte_2 a b c d h k l =
    let q : word_of a b c d / 65536 ≡ c + d * 256 = omega arith in
    rw q (omega arith)

byte_3 : (a b c d : ℕ) → a < 256 → b < 256 → c < 256 → word_of a b c d / 16777216 ≡ d
unfolding word_of
byte_3 a b c d h k l = omega arith

-- one byte more
next : (b : List ℕ) (i j : ℕ) → j ≡ i + 1 → i < length b → take j b ≡ take i b ++ (get_or b i 0 ∷ [])
next b i j e h =
    let s : j ≡ suc i = omega arith in
    rw s (take-suc b i 0 h)

module _ (b : List ℕ) (is : Bytes b) where
  -- a word more, two, three
  pub word_take : (n : ℕ) → n + 4 ≤ length b → take (n + 4) b ≡ take n b ++ bytes_of (word32 b n ∷ [])
  unfolding bytes_of word32
  word_take n h =
      rw (
        byte_0 (get_or b n 0) (get_or b (n + 1) 0) (get_or b (n + 2) 0) (get_or b (n + 3) 0) (is.byte n),
        byte_1 (get_or b n 0) (get_or b (n + 1) 0) (get_or b (n + 2) 0) (get_or b (n + 3) 0) (is.byte n) (is.byte (n + 1)),
        byte_2 (get_or b n 0) (get_or b (n + 1) 0) (get_or b (n + 2) 0) (get_or b (n + 3) 0) (is.byte n) (is.byte (n + 1)) (is.byte (n + 2)),
        byte_3 (get_or b n 0) (get_or b (n + 1) 0) (get_or b (n + 2) 0) (get_or b (n + 3) 0) (is.byte n) (is.byte (n + 1)) (is.byte (n + 2)),
      )
      (next b (n + 3) (n + 4) (omega arith) (omega arith)
      ∙ ap (λ (l : List ℕ). l ++ (get_or b (n + 3) 0 ∷ []))
      (next b (n + 2) (n + 3) (omega arith) (omega arith)
      ∙ ap (λ (l : List ℕ). l ++ (get_or b (n + 2) 0 ∷ []))
      (next b (n + 1) (n + 2) (omega arith) (omega arith)
      ∙ ap (λ (l : List ℕ). l ++ (get_or b (n + 1) 0 ∷ [])) (next b n (n + 1) (omega arith) (omega arith))))
      ∙ four (take n b) (get_or b n 0) (get_or b (n + 1) 0) (get_or b (n + 2) 0) (get_or b (n + 3) 0))

  more-take : (at n m : ℕ) (ws : List ℕ) → take n b ≡ take at b ++ bytes_of ws → n + 4 ≡ m → m ≤ length b → take m b ≡ take at b ++ bytes_of (ws ++ (word32 b n ∷ []))
  more-take at n m ws e f h =
      words_behind (take m b) (take n b) (take at b) ws (word32 b n ∷ []) (rw (← f) (word_take n (omega arith))) e

  two_take : (at : ℕ) → at + 8 ≤ length b → take (at + 8) b ≡ take at b ++ bytes_of (word32 b at ∷ word32 b (at + 4) ∷ [])
  two_take at h = more-take at (at + 4) (at + 8) (word32 b at ∷ []) (word_take at (omega arith)) (omega arith) h

  three_take : (at : ℕ) → at + 12 ≤ length b → take (at + 12) b ≡ take at b ++ bytes_of (word32 b at ∷ word32 b (at + 4) ∷ word32 b (at + 8) ∷ [])
  three_take at h = more-take at (at + 8) (at + 12) (word32 b at ∷ word32 b (at + 4) ∷ []) (two_take at (omega arith)) (omega arith) h

-- a flag and its word are those of the limit, or the block, that they code
flag_cases : (f w : ℕ) → is_flagged f w ≡ true → (eqb f 0 ≡ true → w ≡ 0) × (eqb f 0 ≡ false → f ≡ 1)
unfolding is_flagged
flag_cases f w h = (λ e. eqb-true w 0 (rw e at h), λ e. eqb-true f 1 (rw e at h))

limit_back : (f w : ℕ) → is_flagged f w ≡ true → limit_words (limit_in f w) ≡ f ∷ w ∷ []
unfolding limit_words limit_flag limit_number limit_in
limit_back f w h = go (eqb f 0) refl
  where
    go : (t : Bool) → eqb f 0 ≡ t → limit_flag (cond t None (Some (record { 0 = w }))) ∷ limit_number (cond t None (Some (record { 0 = w }))) ∷ [] ≡ f ∷ w ∷ []
    go true e = rw (eqb-true f 0 e, (flag_cases f w h).0 e)
    go false e = ap (λ (x : ℕ). x ∷ w ∷ []) (sym ((flag_cases f w h).1 e))

block_back : (f w : ℕ) → is_flagged f w ≡ true → block_words (block_in f w) ≡ f ∷ w ∷ []
unfolding block_words block_flag block_number block_in
block_back f w h = go (eqb f 0) refl
  where
    go : (t : Bool) → eqb f 0 ≡ t → block_flag (cond t None (Some (record { 0 = w }))) ∷ block_number (cond t None (Some (record { 0 = w }))) ∷ [] ≡ f ∷ w ∷ []
    go true e = rw (eqb-true f 0 e, (flag_cases f w h).0 e)
    go false e = ap (λ (x : ℕ). x ∷ w ∷ []) (sym ((flag_cases f w h).1 e))

-- the columns that were read, by number
pub length-columns_in : (b : List ℕ) (n : ℕ) → length (columns_in b n) ≡ n
unfolding columns_in
length-columns_in b zero = refl
length-columns_in b (suc n) = length-append (columns_in b n) (column_in b n ∷ []) ∙ omega (arith, length-columns_in b n)

pub get_d_columns_in : (b : List ℕ) (n c : ℕ) → c < n → get_or (columns_in b n) c no_column ≡ column_in b c
unfolding columns_in
get_d_columns_in b zero c h = absurd (omega arith)
get_d_columns_in b (suc n) c h = go (get_d_columns_in b n c) (dec_lt c n)
  where
    go : (c < n → get_or (columns_in b n) c no_column ≡ column_in b c) → Dec (c < n) → get_or (columns_in b n ++ (column_in b n ∷ [])) c no_column ≡ column_in b c
    go r (yes l) = get_or-append (columns_in b n) (column_in b n ∷ []) no_column c (omega (arith, length-columns_in b n)) ∙ r l
    go r (no l) =
        let e : c ≡ n = omega arith in
        rw e (get_or_at (columns_in b n) (column_in b n) [] no_column n (length-columns_in b n))

column_of_get : (b : List ℕ) (c : ℕ) → c < 16 → get_or (state_in b).column c no_column ≡ column_in b c
unfolding state_in
column_of_get b c h = get_d_columns_in b 16 c h

module _ (b : List ℕ) (is : Bytes b) (len : length b ≡ state_bytes) where
  column-take : (c : ℕ) → c < 16 → is_column_coded b c ≡ true → take (column_place c + 16) b ≡ take (column_place c) b ++ bytes_of (column_words (column_in b c))
  unfolding column_in is_column_coded
  column-take c h k =
      let n : column_place c + 8 + 4 ≡ column_place c + 12 = omega arith in
      column-put b b b (column_place c) (column_in b c) (two_take b is (column_place c) (omega arith))
      (two_take b is (column_place c + 8) (omega arith)
      ∙ ap (λ (ws : List ℕ). take (column_place c + 8) b ++ bytes_of ws)
      (ap (λ (i : ℕ). word32 b (column_place c + 8) ∷ word32 b i ∷ []) n
      ∙ sym (block_back (word32 b (column_place c + 8)) (word32 b (column_place c + 12)) k)))

  columns_take : ((c : ℕ) → c < 16 → is_column_coded b c ≡ true) → (n : ℕ) → n ≤ 16 → take (columns_at + 16 * n) b ≡ take columns_at b ++ bytes_of (columns_words (state_in b) n)
  columns_take k zero h = columns_put_none b (state_in b)
  columns_take k (suc n) h = go (columns_take k n)
    where
      m : suc n ≡ n + 1
      m = omega arith

      d : column_in b n ≡ get_or (state_in b).column n no_column
      d = sym (column_of_get b n (omega arith))

      go : (n ≤ 16 → take (columns_at + 16 * n) b ≡ take columns_at b ++ bytes_of (columns_words (state_in b) n)) → take (columns_at + 16 * suc n) b ≡ take columns_at b ++ bytes_of (columns_words (state_in b) (suc n))
      go r =
          rw m
          (columns_put_more b (state_in b) b b n (r (omega arith))
          (column-take n (omega arith) (k n (omega arith)) ∙ ap (λ (x : Column). take (column_place n) b ++ bytes_of (column_words x)) d))

  -- the round trip from bytes: decoding, then encoding
  pub code_state : is_coded b ≡ true → code_of (state_in b) ≡ b
  unfolding is_coded state_in count_words
  code_state h =
      let p = (and-eq-true_iff (is_flagged (word32 b 28) (word32 b 32)) (every (is_column_coded b) 16)).0 h in
      sym
      (state_put (state_in b) b b b
      (set_up_put (state_in b) b b b b (two_take b is 0 (omega arith)) (two_take b is 8 (omega arith)) (three_take b is 16 (omega arith)))
      (two_take b is 28 (omega arith) ∙ ap (λ (ws : List ℕ). take 28 b ++ bytes_of ws) (sym (limit_back (word32 b 28) (word32 b 32) p.0)))
      (three_take b is 36 (omega arith))
      (sym (take_all state_bytes b (omega arith)) ∙ columns_take (every-says (is_column_coded b) 16 p.1) 16 (omega arith)))
