-- Pieces of bytes one behind the other: what is read of them, what a put leaves, words and zeros among them.
use Rattle.std.specs.Prelude.{ℕ, suc, ◌+◌, ◌-◌, ◌*◌, ◌/◌, ◌%◌, ◌≤◌, ◌<◌, ◌^◌, ◌≡◌, refl, Bool, true, false, ◌&&◌, List, [], ◌∷◌, ◌++◌, get_or, take}
use Rattle.std.proofs.Common.{sym, ◌∙◌, append_assoc, arith, length-append, length-drop, drop-cons, drop-drop, take-add, take_all, eq-eqb}
use Rattle.std.proofs.Math.Path.{ap}
use Rattle.std.proofs.lemmas.Bool.{false≢true}
use Rattle.std.proofs.Math.ListN.{length, drop}
use Rattle.std.proofs.lemmas.List.{length-replicate, replicate-append-replicate}
use Rattle.std.proofs.lemmas.List.Edits.{sets-eq}
use Rattle.std.proofs.Math.Seq.{take_at, drop_at}
use Rattle.search.specs.Table.{same, same→eq}
use Rattle.words.specs.Word.{word_of, word32, with_word32}
use Rattle.words.specs.WordLaws.{Bytes}
use Rattle.words.specs.Run.{read, put}
use Rattle.words.specs.FrameLaws.{word_read}
use Rattle.outs.specs.Coding.{zeros, padded, word_bytes}

-- ---- the same bytes

pub same_refl : (x : List ℕ) → same x x ≡ true
same_refl [] = refl
same_refl (a ∷ x) = rw (eq-eqb a a refl, same_refl x)

pub same_is : (x y : List ℕ) → x ≡ y → same x y ≡ true
same_is x y e = rw e (same_refl y)

pub same-says : (x y : List ℕ) → same x y ≡ true → x ≡ y
same-says x y e = same→eq x y (rw e tt)

-- both halves of a test that holds
pub left_of : (a b : Bool) → (a && b) ≡ true → a ≡ true
left_of true b h = refl
left_of false b h = h

pub right_of : (a b : Bool) → (a && b) ≡ true → b ≡ true
right_of true b h = h
right_of false b h = absurd (false≢true h)

-- ---- pieces

module _ (p q r : List ℕ) (a : ℕ) (h : length p ≡ a) where
  -- the middle piece is what is read where it stands
  pub read_at : (n : ℕ) → length q ≡ n → read a n (p ++ (q ++ r)) ≡ q
  unfolding read
  read_at n k = ap (take n) (drop_at p (q ++ r) a h) ∙ take_at q r n k

  -- a put of as many bytes replaces it
  pub put-at : (bs : List ℕ) → length q ≡ length bs → put a bs (p ++ (q ++ r)) ≡ p ++ (bs ++ r)
  unfolding put
  put-at bs k =
      let e : drop (a + length bs) (p ++ (q ++ r)) ≡ r =
      ap (drop (a + length bs)) (sym (append_assoc p q r)) ∙ drop_at (p ++ q) r (a + length bs) (length-append p q ∙ omega arith) in
      rw (take_at p (q ++ r) a h, e)

-- what is read in two steps
pub read_add : (a m n : ℕ) (s : List ℕ) → read a (m + n) s ≡ read a m s ++ read (a + m) n s
unfolding read
read_add a m n s = take-add m n (drop a s) ∙ ap (λ (l : List ℕ). take m (drop a s) ++ take n l) (drop-drop m a s)

pub read_none : (a : ℕ) (s : List ℕ) → [] ≡ read a 0 s
unfolding read
read_none a s = refl

-- a run up to the end is what is left
pub read-rest : (a n : ℕ) (s : List ℕ) → length s ≤ a + n → read a n s ≡ drop a s
unfolding read
read-rest a n s h = take_all n (drop a s) (rw length-drop (omega arith))

pub read_all : (n : ℕ) (s : List ℕ) → length s ≡ n → read 0 n s ≡ s
unfolding read
read_all n s h = take_all n s (omega arith)

-- a part that is lent, from one place up to another
pub part_is : (a e n : ℕ) (s : List ℕ) → a + n ≡ e → take (e - a) (drop a s) ≡ read a n s
unfolding read
part_is a e n s h = let k : e - a ≡ n = omega arith in rw k

-- ---- words

pub length_word : (v : ℕ) → length (word_bytes v) ≡ 4
unfolding word_bytes
length_word v = refl

-- a word that is put is its four bytes put
pub word_put : (s : List ℕ) (at v : ℕ) → at + 4 ≤ length s → with_word32 s at v ≡ put at (word_bytes v) s
unfolding with_word32 put word_bytes
word_put s at v h =
    let a : at + 1 ≡ suc at = omega arith in
    let b : at + 2 ≡ suc (suc at) = omega arith in
    let c : at + 3 ≡ suc (suc (suc at)) = omega arith in
    let w : List ℕ = v % 256 ∷ v / 256 % 256 ∷ v / 65536 % 256 ∷ v / 16777216 ∷ [] in
    rw (a, b, c) (sets-eq (v % 256 ∷ v / 256 % 256 ∷ v / 65536 % 256 ∷ v / 16777216 ∷ []) s at h ∙ append_assoc (take at s) w (drop (at + 4) s))

-- the word that four bytes code
word_code : (v : ℕ) → v < 2 ^ 32 → word32 (word_bytes v) 0 ≡ v
unfolding word32 word_of word_bytes
word_code v h = omega arith

pub word_at : (p r : List ℕ) (a v : ℕ) → length p ≡ a → v < 2 ^ 32 → word32 (p ++ (word_bytes v ++ r)) a ≡ v
word_at p r a v h k =
    let z : a ≡ a + 0 = omega arith in
    ap (word32 (p ++ (word_bytes v ++ r))) z
    ∙ sym (word_read a 4 (p ++ (word_bytes v ++ r)) 0 (omega arith))
    ∙ ap (λ (l : List ℕ). word32 l 0) (read_at p (word_bytes v) r a h 4 (length_word v))
    ∙ word_code v k

-- the bytes of a word that is read
four_bytes : (a b c d : ℕ) → a < 256 → b < 256 → c < 256 → d < 256 → word_bytes (word_of a b c d) ≡ a ∷ b ∷ c ∷ d ∷ []
unfolding word_bytes word_of
four_bytes a b c d h i j k =
    let p : (a + b * 256 + c * 65536 + d * 16777216) % 256 ≡ a = omega arith in
    let q : (a + b * 256 + c * 65536 + d * 16777216) / 256 ≡ b + c * 256 + d * 65536 = omega arith in
    let q' : (b + c * 256 + d * 65536) % 256 ≡ b = omega arith in
    let r : (a + b * 256 + c * 65536 + d * 16777216) / 65536 ≡ c + d * 256 = omega arith in
    let r' : (c + d * 256) % 256 ≡ c = omega arith in
    let t : (a + b * 256 + c * 65536 + d * 16777216) / 16777216 ≡ d = omega arith in
    rw (p, q, q', r, r', t)

read-four : (a : ℕ) (s : List ℕ) → a + 4 ≤ length s → read a 4 s ≡ get_or s a 0 ∷ get_or s (a + 1) 0 ∷ get_or s (a + 2) 0 ∷ get_or s (a + 3) 0 ∷ []
unfolding read
read-four a s h =
    let e₁ : a + 1 ≡ suc a = omega arith in
    let e₂ : a + 2 ≡ suc (suc a) = omega arith in
    let e₃ : a + 3 ≡ suc (suc (suc a)) = omega arith in
    rw (e₁, e₂, e₃, drop-cons s a 0 (omega arith), drop-cons s (suc a) 0 (omega arith), drop-cons s (suc (suc a)) 0 (omega arith), drop-cons s (suc (suc (suc a))) 0 (omega arith))

pub word_bytes_lem : (s : List ℕ) (a : ℕ) → Bytes s → a + 4 ≤ length s → word_bytes (word32 s a) ≡ read a 4 s
unfolding word32
word_bytes_lem s a b h =
    four_bytes (get_or s a 0) (get_or s (a + 1) 0) (get_or s (a + 2) 0) (get_or s (a + 3) 0) (b.byte a) (b.byte (a + 1)) (b.byte (a + 2)) (b.byte (a + 3)) ∙ sym (read-four a s h)

-- ---- zeros

pub zeros_add : (m n k : ℕ) → m + n ≡ k → zeros m ++ zeros n ≡ zeros k
zeros_add m n k e = replicate-append-replicate m n 0 ∙ ap zeros e

pub length-padded : (n : ℕ) (bs : List ℕ) → length bs ≤ n → length (padded n bs) ≡ n
unfolding padded
length-padded n bs h = length-append bs (zeros (n - length bs)) ∙ omega (arith, length-replicate {A = ℕ} (n - length bs) 0)
