-- The bytes of a side: what is read of the code of its names, and that the names are read back.
use Prim.Native.Nat.{ℕ, zero, suc, ◌+◌, ◌-◌, ◌*◌, ◌≤◌, ◌<◌}
use Rattle.std.specs.Prelude.{◌≡◌, true, leb, get_or}
use Rattle.std.proofs.Math.Path.{refl, sym, ap}
use Rattle.std.proofs.Common.{◌∙◌, arith, take-suc, leb-true, le-leb}
use mathlib.Core.List.{List, [], ◌∷◌, ◌++◌, append_assoc, append-nil}
use Rattle.std.proofs.Math.ListN.{length, take, drop, length-append, length-take}
use Rattle.std.proofs.Math.Seq.{split_at, take_all}
use Rattle.search.specs.Cases.{both}
use Rattle.search.specs.Table.{same}
use Rattle.words.specs.Word.{word32}
use Rattle.words.specs.Run.{read}
use Rattle.outs.specs.Outs.{is_name}
use Rattle.outs.specs.Coding.{zeros, side_bytes, padded, word_bytes, name_code, names_code, side_code, name_in, first_names, names_in, are_names, side_fits, is_side}
use Rattle.outs.specs.PieceLaws.{left_of, right_of, same_refl, same-says, read_at, length_word, word_at, length-padded}

-- ---- names of 1 to 64 bytes

pub name_low : (n : List ℕ) → is_name n ≡ true → 1 ≤ length n
unfolding is_name
name_low n h = leb-true 1 (length n) (left_of (leb 1 (length n)) (leb (length n) 64) h)

pub name_high : (n : List ℕ) → is_name n ≡ true → length n ≤ 64
unfolding is_name
name_high n h = leb-true (length n) 64 (right_of (leb 1 (length n)) (leb (length n) 64) h)

pub name_is : (n : List ℕ) → 1 ≤ length n → length n ≤ 64 → is_name n ≡ true
unfolding is_name
name_is n a b = both (le-leb 1 (length n) a) (le-leb (length n) 64 b)

pub names_none : are_names [] ≡ true
unfolding are_names
names_none = refl

pub names_first : (n : List ℕ) (l : List (List ℕ)) → are_names (n ∷ l) ≡ true → is_name n ≡ true
unfolding are_names
names_first n l h = left_of (is_name n) (are_names l) h

pub names_rest : (n : List ℕ) (l : List (List ℕ)) → are_names (n ∷ l) ≡ true → are_names l ≡ true
unfolding are_names
names_rest n l h = right_of (is_name n) (are_names l) h

names_cons : (n : List ℕ) (l : List (List ℕ)) → is_name n ≡ true → are_names l ≡ true → are_names (n ∷ l) ≡ true
unfolding are_names
names_cons n l h k = both h k

pub names_drop : (l : List (List ℕ)) → are_names l ≡ true → are_names (drop 1 l) ≡ true
names_drop [] h = h
names_drop (n ∷ l) h = names_rest n l h

pub names_append : (l : List (List ℕ)) (n : List ℕ) → are_names l ≡ true → is_name n ≡ true → are_names (l ++ (n ∷ [])) ≡ true
names_append [] n h k = names_cons n [] k h
names_append (m ∷ l) n h k = names_cons m (l ++ (n ∷ [])) (names_first m l h) (names_append l n (names_rest m l h) k)

pub names_at : (l : List (List ℕ)) (i : ℕ) → are_names l ≡ true → i < length l → is_name (get_or l i []) ≡ true
names_at [] i h k = absurd (omega arith)
names_at (n ∷ l) zero h k = names_first n l h
names_at (n ∷ l) (suc i) h k = names_at l i (names_rest n l h) (omega arith)

names_take : (l : List (List ℕ)) (i : ℕ) → are_names l ≡ true → are_names (take i l) ≡ true
names_take l zero h = names_none
names_take [] (suc i) h = names_none
names_take (n ∷ l) (suc i) h = names_cons n (take i l) (names_first n l h) (names_take l i (names_rest n l h))

-- ---- their code

-- a name's code is three pieces
pub name_pieces : (n : List ℕ) → length n ≤ 64 → name_code n ≡ word_bytes (length n) ++ (n ++ zeros (64 - length n))
unfolding name_code padded
name_pieces n h =
    let e : 68 - length (word_bytes (length n) ++ n) ≡ 64 - length n = omega (arith, length-append (word_bytes (length n)) n, length_word (length n)) in
    rw (e, append_assoc)

pub length_name : (n : List ℕ) → length n ≤ 64 → length (name_code n) ≡ 68
unfolding name_code
length_name n h = length-padded 68 (word_bytes (length n) ++ n) (omega (arith, length-append (word_bytes (length n)) n, length_word (length n)))

pub names_code-none : names_code [] ≡ []
unfolding names_code
names_code-none = refl

pub names_code_cons : (n : List ℕ) (l : List (List ℕ)) → names_code (n ∷ l) ≡ name_code n ++ names_code l
unfolding names_code
names_code_cons n l = refl

pub names_code-append : (l m : List (List ℕ)) → names_code (l ++ m) ≡ names_code l ++ names_code m
unfolding names_code
names_code-append [] m = refl
names_code-append (n ∷ l) m = rw (names_code-append l m, append_assoc)

pub names_code_one : (n : List ℕ) → names_code (n ∷ []) ≡ name_code n
names_code_one n = names_code_cons n [] ∙ ap (λ (r : List ℕ). name_code n ++ r) names_code-none ∙ append-nil (name_code n)

pub length_names : (l : List (List ℕ)) → are_names l ≡ true → length (names_code l) ≡ 68 * length l
length_names [] h = ap length names_code-none
length_names (n ∷ l) h =
    let a : length (name_code n) ≡ 68 = length_name n (name_high n (names_first n l h)) in
    let b : length (names_code l) ≡ 68 * length l = length_names l (names_rest n l h) in
    ap length (names_code_cons n l) ∙ length-append (name_code n) (names_code l) ∙ omega arith

-- ---- a side that fits

-- at most seven names, each of 1 to 64 bytes
pub record SideFits (l : List (List ℕ)) : Type 0 where
  pub seven : length l ≤ 7
  pub named : are_names l ≡ true

pub fits-says : (l : List (List ℕ)) → side_fits l ≡ true → SideFits l
unfolding side_fits
fits-says l h =
    record { seven = leb-true (length l) 7 (left_of (leb (length l) 7) (are_names l) h); named = right_of (leb (length l) 7) (are_names l) h }

pub fits_is : {l : List (List ℕ)} → SideFits l → side_fits l ≡ true
unfolding side_fits
fits_is {l} f = both (le-leb (length l) 7 f.seven) f.named

-- what stands before name i
unfoldable pub ahead : List (List ℕ) → ℕ → List ℕ
ahead l i = word_bytes (length l) ++ names_code (take i l)

-- and what behind it
unfoldable pub rest : List (List ℕ) → ℕ → List ℕ
rest l i = names_code (drop (suc i) l) ++ zeros (476 - 68 * length l)

module _ (l : List (List ℕ)) (f : SideFits l) where
  front : length (word_bytes (length l) ++ names_code l) ≡ 4 + 68 * length l
  front = length-append (word_bytes (length l)) (names_code l) ∙ omega (arith, length_word (length l), length_names l f.named)

  -- the code of a side is three pieces
  pub side_pieces : side_code l ≡ word_bytes (length l) ++ (names_code l ++ zeros (476 - 68 * length l))
  unfolding side_code padded
  side_pieces =
      let e : 480 - length (word_bytes (length l) ++ names_code l) ≡ 476 - 68 * length l = omega (arith, front) in
      rw (e, append_assoc)

  pub length_side : length (side_code l) ≡ side_bytes
  unfolding side_code
  length_side = length-padded 480 (word_bytes (length l) ++ names_code l) (omega (arith, front, f.seven))

  -- the count
  pub side_count : word32 (side_code l) 0 ≡ length l
  side_count = ap (λ (s : List ℕ). word32 s 0) side_pieces ∙ word_at [] (names_code l ++ zeros (476 - 68 * length l)) 0 (length l) refl (omega (arith, f.seven))

  pub length-ahead : (i : ℕ) → i ≤ length l → length (ahead l i) ≡ 4 + 68 * i
  unfolding ahead
  length-ahead i h =
      length-append (word_bytes (length l)) (names_code (take i l))
      ∙ omega (arith, length_word (length l), length_names (take i l) (names_take l i f.named), length-take i l)

  pub at_name : (i : ℕ) → i < length l → side_code l ≡ ahead l i ++ (name_code (get_or l i []) ++ rest l i)
  unfolding ahead rest
  at_name i h =
      side_pieces
      ∙ ap (λ (m : List (List ℕ)). word_bytes (length l) ++ (names_code m ++ zeros (476 - 68 * length l))) (split_at l i [] h)
      ∙ ap (λ (r : List ℕ). word_bytes (length l) ++ (r ++ zeros (476 - 68 * length l))) (names_code-append (take i l) (get_or l i [] ∷ drop (suc i) l) ∙ ap (λ (r : List ℕ). names_code (take i l) ++ r) (names_code_cons (get_or l i []) (drop (suc i) l)))
      ∙ simp append_assoc

  pub at_word : (i : ℕ) → i < length l → side_code l ≡ ahead l i ++ (word_bytes (length (get_or l i [])) ++ ((get_or l i [] ++ zeros (64 - length (get_or l i []))) ++ rest l i))
  at_word i h =
      at_name i h
      ∙ ap (λ (r : List ℕ). ahead l i ++ (r ++ rest l i)) (name_pieces (get_or l i []) (name_high (get_or l i []) (names_at l i f.named h)))
      ∙ ap (λ (r : List ℕ). ahead l i ++ r) (append_assoc (word_bytes (length (get_or l i []))) (get_or l i [] ++ zeros (64 - length (get_or l i []))) (rest l i))

  pub name_word : (i : ℕ) → i < length l → word32 (side_code l) (4 + 68 * i) ≡ length (get_or l i [])
  name_word i h =
      ap (λ (s : List ℕ). word32 s (4 + 68 * i)) (at_word i h)
      ∙ word_at (ahead l i) ((get_or l i [] ++ zeros (64 - length (get_or l i []))) ++ rest l i) (4 + 68 * i) (length (get_or l i [])) (length-ahead i (omega arith)) (omega (arith, name_high (get_or l i []) (names_at l i f.named h)))

  pub name_read : (i : ℕ) → i < length l → name_in (side_code l) i ≡ get_or l i []
  unfolding name_in
  name_read i h =
      let e : side_code l ≡ (ahead l i ++ word_bytes (length (get_or l i []))) ++ (get_or l i [] ++ (zeros (64 - length (get_or l i [])) ++ rest l i)) = at_word i h ∙ simp append_assoc in
      let k : length (ahead l i ++ word_bytes (length (get_or l i []))) ≡ 8 + 68 * i = length-append (ahead l i) (word_bytes (length (get_or l i []))) ∙ omega (arith, length-ahead i (omega arith), length_word (length (get_or l i []))) in
      ap (λ (n : ℕ). read (8 + 68 * i) n (side_code l)) (name_word i h)
      ∙ ap (read (8 + 68 * i) (length (get_or l i []))) e
      ∙ read_at (ahead l i ++ word_bytes (length (get_or l i []))) (get_or l i []) (zeros (64 - length (get_or l i [])) ++ rest l i) (8 + 68 * i) k (length (get_or l i [])) refl

  first_names_lem : (n : ℕ) → n ≤ length l → first_names (side_code l) n ≡ take n l
  unfolding first_names
  first_names_lem zero h = refl
  first_names_lem (suc i) h =
      ap (λ (m : List (List ℕ)). m ++ (name_in (side_code l) i ∷ [])) (first_names_lem i (omega arith))
      ∙ ap (λ (n : List ℕ). take i l ++ (n ∷ [])) (name_read i (omega arith))
      ∙ sym (take-suc l i [] (omega arith))

  -- the names that were coded are read back
  pub names_code_lem : names_in (side_code l) ≡ l
  unfolding names_in
  names_code_lem = ap (first_names (side_code l)) side_count ∙ first_names_lem (length l) (omega arith) ∙ take_all (length l) l (omega arith)

  pub side_coded : is_side (side_code l) ≡ true
  unfolding is_side
  side_coded = rw names_code_lem (both (fits_is f) (same_refl (side_code l)))

-- ---- bytes that code a side

module _ (side : List ℕ) (h : is_side side ≡ true) where
  pub coded-fits : SideFits (names_in side)
  unfolding is_side
  coded-fits = fits-says (names_in side) (left_of (side_fits (names_in side)) (same side (side_code (names_in side))) h)

  pub coded_is : side ≡ side_code (names_in side)
  unfolding is_side
  coded_is = same-says side (side_code (names_in side)) (right_of (side_fits (names_in side)) (same side (side_code (names_in side))) h)

  pub coded-length : length side ≡ side_bytes
  coded-length = ap length coded_is ∙ length_side (names_in side) coded-fits

  pub coded-count : word32 side 0 ≡ length (names_in side)
  coded-count = ap (λ (s : List ℕ). word32 s 0) coded_is ∙ side_count (names_in side) coded-fits

  pub coded-seven : word32 side 0 ≤ 7
  coded-seven = omega (arith, coded-count, coded-fits.seven)

  pub coded_word : (i : ℕ) → i < word32 side 0 → word32 side (4 + 68 * i) ≤ 64
  coded_word i k =
      let j : i < length (names_in side) = omega (arith, coded-count) in
      omega (arith, ap (λ (s : List ℕ). word32 s (4 + 68 * i)) coded_is, name_word (names_in side) coded-fits i j, name_high (get_or (names_in side) i []) (names_at (names_in side) i coded-fits.named j))
