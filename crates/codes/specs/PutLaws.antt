-- What the writing functions leave: each puts words behind those that stand already.
use Rattle.std.specs.Prelude.{Option, Some, None}
use Rattle.std.specs.Prelude.{ℕ, suc, ◌+◌, ◌*◌, ◌/◌, ◌%◌, ◌≤◌, ◌<◌, ◌≡◌, refl, List, [], ◌∷◌, ◌++◌, length, take, drop, get_or, set}
use Rattle.std.proofs.Common.{sym, ◌∙◌, ap, append_assoc, append-nil, arith, length-set, take-suc-set, take_all, drop-set-lt}
use Rattle.std.proofs.lemmas.List.{take_more}
use Rattle.words.specs.Word.{with_word32}
use Rattle.words.specs.WordLaws.{length-with_word32}
use Rattle.state.specs.declared.BatchCoalescer.{BatchCoalescer}
use Rattle.state.specs.declared.Column.{Column}
use Rattle.counts.specs.declared.RowCount.{RowCount}
use Rattle.counts.specs.declared.BufferNumber.{BufferNumber}
use Rattle.state.specs.World.{no_column, column_of}
use Rattle.codes.specs.Code.{
  state_bytes,
  columns_at,
  bytes_of,
  limit_flag,
  limit_number,
  limit_words,
  block_flag,
  block_number,
  block_words,
  column_words,
  columns_words,
  set_up_words,
  count_words,
  words_of,
  code_of,
  limited,
}

-- the bytes of words are those of the first ones and of the rest
pub bytes-append : (vs ws : List ℕ) → bytes_of (vs ++ ws) ≡ bytes_of vs ++ bytes_of ws
unfolding bytes_of
bytes-append [] ws = refl
bytes-append (v ∷ vs) ws = rw (bytes-append vs ws)

-- bytes, then four more one by one
pub four : (p : List ℕ) (x y z w : ℕ) → (((p ++ (x ∷ [])) ++ (y ∷ [])) ++ (z ∷ [])) ++ (w ∷ []) ≡ p ++ (x ∷ y ∷ z ∷ w ∷ [])
four [] x y z w = refl
four (a ∷ p) x y z w = ap (λ (l : List ℕ). a ∷ l) (four p x y z w)

-- one byte more
more : (l : List ℕ) (i j a : ℕ) → j ≡ suc i → i < length l → take j (set l i a) ≡ take i l ++ (a ∷ [])
more l i j a e h = rw e (take-suc-set l i a h)

-- a word that is put is behind what stood before it
pub word_put : (b : List ℕ) (n v : ℕ) → n + 4 ≤ length b → take (n + 4) (with_word32 b n v) ≡ take n b ++ bytes_of (v ∷ [])
unfolding with_word32 bytes_of
word_put b n v h =
    let l₁ : length (set b n (v % 256)) ≡ length b = simp length-set in
    let l₂ : length (set (set b n (v % 256)) (n + 1) (v / 256 % 256)) ≡ length b = simp length-set in
    let l₃ : length (set (set (set b n (v % 256)) (n + 1) (v / 256 % 256)) (n + 2) (v / 65536 % 256)) ≡ length b = simp length-set in
    more _ (n + 3) (n + 4) (v / 16777216) (omega arith) (omega arith)
    ∙ ap (λ (l : List ℕ). l ++ (v / 16777216 ∷ []))
    (more _ (n + 2) (n + 3) (v / 65536 % 256) (omega arith) (omega arith)
    ∙ ap (λ (l : List ℕ). l ++ (v / 65536 % 256 ∷ []))
    (more _ (n + 1) (n + 2) (v / 256 % 256) (omega arith) (omega arith)
    ∙ ap (λ (l : List ℕ). l ++ (v / 256 % 256 ∷ [])) (more b n (n + 1) (v % 256) (omega arith) (omega arith))))
    ∙ four (take n b) (v % 256) (v / 256 % 256) (v / 65536 % 256) (v / 16777216)

-- more words behind words
pub words_behind : (l m p vs ws : List ℕ) → l ≡ m ++ bytes_of ws → m ≡ p ++ bytes_of vs → l ≡ p ++ bytes_of (vs ++ ws)
words_behind l m p vs ws e f =
    e ∙ ap (λ (k : List ℕ). k ++ bytes_of ws) f ∙ append_assoc p (bytes_of vs) (bytes_of ws) ∙ ap (λ (k : List ℕ). p ++ k) (sym (bytes-append vs ws))

pub put_next : (b t : List ℕ) {u : List ℕ} (at n m v : ℕ) (ws : List ℕ) → take n t ≡ take at b ++ bytes_of ws → u ≡ with_word32 t n v → n + 4 ≡ m → m ≤ length t → take m u ≡ take at b ++ bytes_of (ws ++ (v ∷ []))
put_next b t {u} at n m v ws e f g h =
    words_behind (take m u) (take n t) (take at b) ws (v ∷ []) (rw (f, ← g) (word_put t n v (omega arith))) e

-- the ways out
pub two_put : (b : List ℕ) {t u : List ℕ} (at v w : ℕ) → t ≡ with_word32 b at v → u ≡ with_word32 t (at + 4) w → at + 8 ≤ length b → take (at + 8) u ≡ take at b ++ bytes_of (v ∷ w ∷ [])
two_put b {t} at v w e f h =
    let l : length t ≡ length b = rw e (length-with_word32 b at v) in
    put_next b t at (at + 4) (at + 8) w (v ∷ []) (rw e (word_put b at v (omega arith))) f (omega arith) (omega arith)

-- words, one after another: none yet, one more, all
pub words_put_none : (b ws : List ℕ) (at : ℕ) → take (at + 4 * 0) b ≡ take at b ++ bytes_of (take 0 ws)
unfolding bytes_of
words_put_none b ws at = let n : at + 4 * 0 ≡ at = omega arith in rw n (sym (append-nil (take at b)))

pub words_put_more : (b t ws : List ℕ) {u : List ℕ} (at i : ℕ) → take (at + 4 * i) t ≡ take at b ++ bytes_of (take i ws) → u ≡ with_word32 t (at + 4 * i) (get_or ws i 0) → i < length ws → at + 4 * length ws ≤ length t → take (at + 4 * (i + 1)) u ≡ take at b ++ bytes_of (take (i + 1) ws)
words_put_more b t ws at i e f h l =
    rw (take_more ws i 0 h)
    (put_next b t at (at + 4 * i) (at + 4 * (i + 1)) (get_or ws i 0) (take i ws) e f (omega arith) (omega arith))

pub words_put_all : (b t ws : List ℕ) (at n : ℕ) → take (at + 4 * n) t ≡ take at b ++ bytes_of (take n ws) → n ≡ length ws → take (at + 4 * n) t ≡ take at b ++ bytes_of ws
words_put_all b t ws at n e h = e ∙ ap (λ (l : List ℕ). take at b ++ bytes_of l) (take_all n ws (omega arith))

pub set_up_put : (s : BatchCoalescer) (b t u r : List ℕ) → take 8 t ≡ take 0 b ++ bytes_of (s.target.0 ∷ s.rows.0 ∷ []) → take 16 u ≡ take 8 t ++ bytes_of (s.queue ∷ s.columns ∷ []) → take 28 r ≡ take 16 u ++ bytes_of (s.lists ∷ s.numbers ∷ s.pool.0 ∷ []) → take 28 r ≡ bytes_of (set_up_words s)
unfolding set_up_words
set_up_put s b t u r e f g =
    words_behind (take 28 r) (take 16 u) [] (s.target.0 ∷ s.rows.0 ∷ s.queue ∷ s.columns ∷ []) (s.lists ∷ s.numbers ∷ s.pool.0 ∷ []) g
    (words_behind (take 16 u) (take 8 t) [] (s.target.0 ∷ s.rows.0 ∷ []) (s.queue ∷ s.columns ∷ []) f e)

pub column-put : (b t u : List ℕ) (at : ℕ) (d : Column) → take (at + 8) t ≡ take at b ++ bytes_of (d.kind ∷ d.source.current.0 ∷ []) → take (at + 8 + 8) u ≡ take (at + 8) t ++ bytes_of (block_words d.block) → take (at + 16) u ≡ take at b ++ bytes_of (column_words d)
unfolding column_words
column-put b t u at d e f =
    let n : at + 16 ≡ at + 8 + 8 = omega arith in
    rw n (words_behind (take (at + 8 + 8) u) (take (at + 8) t) (take at b) (d.kind ∷ d.source.current.0 ∷ []) (block_words d.block) f e)

-- the limit's two words, by its cases; they stand behind what stood before them, and what stood behind them stays
pub limited-rows : (l : Option RowCount) {k : RowCount} (b : List ℕ) {t u : List ℕ} → l ≡ Some k → t ≡ with_word32 b 28 1 → u ≡ with_word32 t 32 k.0 → u ≡ limited l b
unfolding limited limit_flag limit_number
limited-rows l b h e f = rw (f, e, h)

pub limited_unset : (l : Option RowCount) (b : List ℕ) {t u : List ℕ} → l ≡ None → t ≡ with_word32 b 28 0 → u ≡ with_word32 t 32 0 → u ≡ limited l b
unfolding limited limit_flag limit_number
limited_unset l b h e f = rw (f, e, h)

pub limited-take : (l : Option RowCount) (b : List ℕ) {u : List ℕ} → u ≡ limited l b → length b ≡ state_bytes → take 36 u ≡ take 28 b ++ bytes_of (limit_words l)
unfolding limited limit_words
limited-take l b e h = two_put b 28 (limit_flag l) (limit_number l) refl e (omega arith)

word_drop : (b : List ℕ) (n at v : ℕ) → at + 4 ≤ n → drop n (with_word32 b at v) ≡ drop n b
unfolding with_word32
word_drop b n at v h =
    drop-set-lt n _ (at + 3) (v / 16777216) (omega arith)
    ∙ drop-set-lt n _ (at + 2) (v / 65536 % 256) (omega arith)
    ∙ drop-set-lt n _ (at + 1) (v / 256 % 256) (omega arith)
    ∙ drop-set-lt n b at (v % 256) (omega arith)

pub limited-drop : (l : Option RowCount) (b : List ℕ) → drop 36 (limited l b) ≡ drop 36 b
unfolding limited
limited-drop l b = word_drop _ 36 32 (limit_number l) (omega arith) ∙ word_drop b 36 28 (limit_flag l) (omega arith)

pub length-limited : (l : Option RowCount) (b : List ℕ) → length (limited l b) ≡ length b
unfolding limited
length-limited l b = length-with_word32 _ 32 (limit_number l) ∙ length-with_word32 b 28 (limit_flag l)

pub block_put_number : (o : Option BufferNumber) (k : BufferNumber) (x p : List ℕ) → o ≡ Some k → x ≡ p ++ bytes_of (1 ∷ k.0 ∷ []) → x ≡ p ++ bytes_of (block_words o)
unfolding block_words block_flag block_number
block_put_number o k x p h e = rw h e

pub block_put_closed : (o : Option BufferNumber) (x p : List ℕ) → o ≡ None → x ≡ p ++ bytes_of (0 ∷ 0 ∷ []) → x ≡ p ++ bytes_of (block_words o)
unfolding block_words block_flag block_number
block_put_closed o x p h e = rw h e

-- columns, one after another: none yet, one more, all
pub columns_put_none : (b : List ℕ) (s : BatchCoalescer) → take (columns_at + 16 * 0) b ≡ take columns_at b ++ bytes_of (columns_words s 0)
unfolding bytes_of columns_words
columns_put_none b s = sym (append-nil (take columns_at b))

pub columns_put_more : (b : List ℕ) (s : BatchCoalescer) (t u : List ℕ) (c : ℕ) → take (columns_at + 16 * c) t ≡ take columns_at b ++ bytes_of (columns_words s c) → take (columns_at + 16 * c + 16) u ≡ take (columns_at + 16 * c) t ++ bytes_of (column_words (get_or s.column c no_column)) → take (columns_at + 16 * (c + 1)) u ≡ take columns_at b ++ bytes_of (columns_words s (c + 1))
unfolding columns_words column_of
columns_put_more b s t u c e f =
    let n : columns_at + 16 * (c + 1) ≡ columns_at + 16 * c + 16 = omega arith in
    let m : c + 1 ≡ suc c = omega arith in
    rw (n, m)
    (words_behind (take (columns_at + 16 * c + 16) u) (take (columns_at + 16 * c) t) (take columns_at b) (columns_words s c) (column_words (get_or s.column c no_column)) f e)

pub columns_put_all : (b : List ℕ) (s : BatchCoalescer) {t : List ℕ} (c : ℕ) → take (columns_at + 16 * c) t ≡ take columns_at b ++ bytes_of (columns_words s c) → length t ≡ length b → length b ≡ state_bytes → c ≤ 16 → 16 ≤ c → t ≡ take columns_at b ++ bytes_of (columns_words s 16)
columns_put_all b s {t} c e l h m n =
    let q : c ≡ 16 = omega arith in
    let e' : take state_bytes t ≡ take columns_at b ++ bytes_of (columns_words s 16) = rw q at e in
    sym (take_all state_bytes t (omega arith)) ∙ e'

-- the four parts of a state
pub parts : (a b c d : List ℕ) → bytes_of (a ++ b ++ c ++ d) ≡ bytes_of a ++ bytes_of b ++ bytes_of c ++ bytes_of d
parts a b c d = rw (bytes-append (a ++ b ++ c) d, bytes-append (a ++ b) c, bytes-append a b)

pub state_put : (s : BatchCoalescer) (t u v : List ℕ) {r : List ℕ} → take 28 t ≡ bytes_of (set_up_words s) → take 36 u ≡ take 28 t ++ bytes_of (limit_words s.limit) → take columns_at v ≡ take 36 u ++ bytes_of (count_words s) → r ≡ take columns_at v ++ bytes_of (columns_words s 16) → r ≡ code_of s
unfolding code_of words_of
state_put s t u v e f g h =
    h
    ∙ ap (λ (l : List ℕ). l ++ bytes_of (columns_words s 16))
    (g
    ∙ ap (λ (l : List ℕ). l ++ bytes_of (count_words s)) (f ∙ ap (λ (l : List ℕ). l ++ bytes_of (limit_words s.limit)) e))
    ∙ sym (parts (set_up_words s) (limit_words s.limit) (count_words s) (columns_words s 16))
