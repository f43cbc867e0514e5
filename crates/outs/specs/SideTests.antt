-- Bytes code a side where the count, each name and the zeros behind them pass their tests.
use Prim.Native.Nat.{ℕ, zero, suc, ◌+◌, ◌-◌, ◌*◌, ◌≤◌, ◌<◌}
use Rattle.std.specs.Prelude.{◌≡◌, ◌&&◌, length, get_or, drop}
use Rattle.std.proofs.Math.Path.{refl, sym, ap}
use Rattle.std.proofs.Common.{◌∙◌, length-drop, drop_at}
use Rattle.std.proofs.Math.Bool.{true}
use mathlib.Core.List.{List, [], ◌∷◌, ◌++◌, append_assoc}
use native.Mathlib.Omega.{arith}
use Rattle.std.proofs.Math.Dec.{leb}
use Rattle.std.proofs.Math.ListN.{length-append}
use Rattle.std.proofs.lemmas.List.{length-replicate}
use borrow.Author.Tests.{leb-true, le-leb}
use Rattle.search.specs.Cases.{both}
use Rattle.words.specs.Word.{word32}
use Rattle.words.specs.WordLaws.{Bytes}
use Rattle.words.specs.Run.{read}
use Rattle.words.specs.RunLaws.{length-read}
use Rattle.outs.specs.Outs.{is_name}
use Rattle.outs.specs.Coding.{zeros, side_bytes, word_bytes, name_code, names_code, side_code, name_in, first_names, names_in, are_names, is_side}
use Rattle.outs.specs.Steps.{is_zero, is_name_at}
use Rattle.outs.specs.PieceLaws.{left_of, right_of, same_is, read_at, read_add, read_none, read-rest, read_all, length_word, word_bytes_lem}
use Rattle.outs.specs.SideLaws.{name_low, name_high, name_is, names_none, names_at, names_append, name_pieces, names_code-none, names_code-append, names_code_one, length_names, SideFits, fits_is, side_pieces, ahead, rest, length-ahead, at_word, name_word, coded-fits, coded_is, coded-count}
use Rattle.outs.specs.TestLaws.{zero_is, zero_says}

-- ---- bytes that pass are a code

name_at' : (side : List ℕ) (i : ℕ) → name_in side i ≡ read (8 + 68 * i) (word32 side (4 + 68 * i)) side
unfolding name_in
name_at' side i = refl

module _ (side : List ℕ) (b : Bytes side) (l : length side ≡ side_bytes) where
  -- one name
  at_low : (i : ℕ) → is_name_at side i ≡ true → 1 ≤ word32 side (4 + 68 * i)
  unfolding is_name_at
  at_low i t = leb-true 1 (word32 side (4 + 68 * i)) (left_of (leb 1 (word32 side (4 + 68 * i))) (leb (word32 side (4 + 68 * i)) 64) (left_of _ (is_zero (read (8 + 68 * i + word32 side (4 + 68 * i)) (64 - word32 side (4 + 68 * i)) side)) t))

  at_high : (i : ℕ) → is_name_at side i ≡ true → word32 side (4 + 68 * i) ≤ 64
  unfolding is_name_at
  at_high i t = leb-true (word32 side (4 + 68 * i)) 64 (right_of (leb 1 (word32 side (4 + 68 * i))) (leb (word32 side (4 + 68 * i)) 64) (left_of _ (is_zero (read (8 + 68 * i + word32 side (4 + 68 * i)) (64 - word32 side (4 + 68 * i)) side)) t))

  at_zero : (i : ℕ) → is_name_at side i ≡ true → is_zero (read (8 + 68 * i + word32 side (4 + 68 * i)) (64 - word32 side (4 + 68 * i)) side) ≡ true
  unfolding is_name_at
  at_zero i t = right_of (leb 1 (word32 side (4 + 68 * i)) && leb (word32 side (4 + 68 * i)) 64) (is_zero (read (8 + 68 * i + word32 side (4 + 68 * i)) (64 - word32 side (4 + 68 * i)) side)) t

  length_at : (i : ℕ) → i < 7 → is_name_at side i ≡ true → length (name_in side i) ≡ word32 side (4 + 68 * i)
  unfolding name_in
  length_at i h t = length-read (8 + 68 * i) (word32 side (4 + 68 * i)) side (omega (arith, at_high i t))

  -- its 68 bytes are its code
  name_there : (i : ℕ) → i < 7 → is_name_at side i ≡ true → name_code (name_in side i) ≡ read (4 + 68 * i) 68 side
  name_there i h t =
      let k : length (name_in side i) ≡ word32 side (4 + 68 * i) = length_at i h t in
      let hi : word32 side (4 + 68 * i) ≤ 64 = at_high i t in
      let w : word_bytes (word32 side (4 + 68 * i)) ≡ read (4 + 68 * i) 4 side = word_bytes_lem side (4 + 68 * i) b (omega arith) in
      let z : zeros (64 - word32 side (4 + 68 * i)) ≡ read (8 + 68 * i + word32 side (4 + 68 * i)) (64 - word32 side (4 + 68 * i)) side =
      sym (zero_says _ (at_zero i t) ∙ ap zeros (length-read (8 + 68 * i + word32 side (4 + 68 * i)) (64 - word32 side (4 + 68 * i)) side (omega arith))) in
      name_pieces (name_in side i) (omega arith)
      ∙ ap (λ (m : ℕ). word_bytes m ++ (name_in side i ++ zeros (64 - m))) k
      ∙ three i (word32 side (4 + 68 * i)) hi w (there i) z
    where
      there : (i : ℕ) → name_in side i ≡ read (8 + 68 * i) (word32 side (4 + 68 * i)) side
      there i = name_at' side i

      three : (i n : ℕ) → n ≤ 64 → word_bytes n ≡ read (4 + 68 * i) 4 side → name_in side i ≡ read (8 + 68 * i) n side → zeros (64 - n) ≡ read (8 + 68 * i + n) (64 - n) side → word_bytes n ++ (name_in side i ++ zeros (64 - n)) ≡ read (4 + 68 * i) 68 side
      three i n hi w x z =
          let e : 68 ≡ 4 + (n + (64 - n)) = omega arith in
          let f : 4 + 68 * i + 4 ≡ 8 + 68 * i = omega arith in
          ap (λ (r : List ℕ). r ++ (name_in side i ++ zeros (64 - n))) w
          ∙ ap (λ (r : List ℕ). read (4 + 68 * i) 4 side ++ (r ++ zeros (64 - n))) x
          ∙ ap (λ (r : List ℕ). read (4 + 68 * i) 4 side ++ (read (8 + 68 * i) n side ++ r)) z
          ∙ ap (λ (r : List ℕ). read (4 + 68 * i) 4 side ++ r) (sym (read_add (8 + 68 * i) n (64 - n) side))
          ∙ ap (λ (a : ℕ). read (4 + 68 * i) 4 side ++ read a (n + (64 - n)) side) (sym f)
          ∙ sym (read_add (4 + 68 * i) 4 (n + (64 - n)) side)
          ∙ ap (λ (m : ℕ). read (4 + 68 * i) m side) (sym e)

  -- the first i of them
  names_length : (i : ℕ) → length (first_names side i) ≡ i
  unfolding first_names
  names_length zero = refl
  names_length (suc i) = length-append (first_names side i) (name_in side i ∷ []) ∙ omega (arith, names_length i)

  names_are : (i : ℕ) → i ≤ 7 → ((u : ℕ) → u < i → is_name_at side u ≡ true) → are_names (first_names side i) ≡ true
  unfolding first_names
  names_are zero h t = names_none
  names_are (suc i) h t =
      let q : is_name_at side i ≡ true = t i (omega arith) in
      names_append (first_names side i) (name_in side i) (names_are i (omega arith) (λ u k. t u (omega arith)))
      (name_is (name_in side i) (omega (arith, length_at i (omega arith) q, at_low i q)) (omega (arith, length_at i (omega arith) q, at_high i q)))

  names_there : (i : ℕ) → i ≤ 7 → ((u : ℕ) → u < i → is_name_at side u ≡ true) → names_code (first_names side i) ≡ read 4 (68 * i) side
  unfolding first_names
  names_there zero h t = names_code-none ∙ read_none 4 side
  names_there (suc i) h t =
      let e : 68 * suc i ≡ 68 * i + 68 = omega arith in
      names_code-append (first_names side i) (name_in side i ∷ [])
      ∙ ap (λ (r : List ℕ). names_code (first_names side i) ++ r) (names_code_one (name_in side i) ∙ name_there i (omega arith) (t i (omega arith)))
      ∙ ap (λ (r : List ℕ). r ++ read (4 + 68 * i) 68 side) (names_there i (omega arith) (λ u k. t u (omega arith)))
      ∙ sym (read_add 4 (68 * i) 68 side)
      ∙ ap (λ (m : ℕ). read 4 m side) (sym e)

  -- the count, the names, the zeros
  tested-fits : word32 side 0 ≤ 7 → ((u : ℕ) → u < word32 side 0 → is_name_at side u ≡ true) → SideFits (names_in side)
  unfolding names_in
  tested-fits h t = record { seven = rw (names_length (word32 side 0)) h; named = names_are (word32 side 0) h t }

  tested-code : (n : ℕ) → word32 side 0 ≡ n → n ≤ 7 → ((u : ℕ) → u < n → is_name_at side u ≡ true) → is_zero (drop (4 + 68 * n) side) ≡ true → side ≡ word_bytes n ++ (names_code (first_names side n) ++ zeros (476 - 68 * n))
  tested-code n e h t z =
      let w : word_bytes n ≡ read 0 4 side = ap word_bytes (sym e) ∙ word_bytes_lem side 0 b (omega arith) in
      let c : names_code (first_names side n) ≡ read 4 (68 * n) side = names_there n h t in
      let d : read (4 + 68 * n) (476 - 68 * n) side ≡ drop (4 + 68 * n) side = read-rest (4 + 68 * n) (476 - 68 * n) side (omega arith) in
      let m : length (drop (4 + 68 * n) side) ≡ 476 - 68 * n = length-drop (4 + 68 * n) side ∙ omega arith in
      let y : drop (4 + 68 * n) side ≡ zeros (476 - 68 * n) = zero_says (drop (4 + 68 * n) side) z ∙ ap zeros m in
      let k : 480 ≡ 4 + (68 * n + (476 - 68 * n)) = omega arith in
      sym (read_all 480 side l)
      ∙ ap (λ (m : ℕ). read 0 m side) k
      ∙ read_add 0 4 (68 * n + (476 - 68 * n)) side
      ∙ ap (λ (r : List ℕ). read 0 4 side ++ r) (read_add 4 (68 * n) (476 - 68 * n) side)
      ∙ ap (λ (r : List ℕ). r ++ (read 4 (68 * n) side ++ read (4 + 68 * n) (476 - 68 * n) side)) (sym w)
      ∙ ap (λ (r : List ℕ). word_bytes n ++ (r ++ read (4 + 68 * n) (476 - 68 * n) side)) (sym c)
      ∙ ap (λ (r : List ℕ). word_bytes n ++ (names_code (first_names side n) ++ r)) (d ∙ y)

  counted : word_bytes (length (names_in side)) ++ (names_code (names_in side) ++ zeros (476 - 68 * length (names_in side))) ≡ word_bytes (word32 side 0) ++ (names_code (first_names side (word32 side 0)) ++ zeros (476 - 68 * word32 side 0))
  unfolding names_in
  counted = ap (λ (n : ℕ). word_bytes n ++ (names_code (first_names side (word32 side 0)) ++ zeros (476 - 68 * n))) (names_length (word32 side 0))

  pub tested_side : word32 side 0 ≤ 7 → ((u : ℕ) → u < word32 side 0 → is_name_at side u ≡ true) → is_zero (drop (4 + 68 * word32 side 0) side) ≡ true → is_side side ≡ true
  unfolding is_side
  tested_side h t z =
      let f : SideFits (names_in side) = tested-fits h t in
      both (fits_is f) (same_is side (side_code (names_in side)) (tested-code (word32 side 0) refl h t z ∙ sym (side_pieces (names_in side) f ∙ counted)))

-- ---- and a code passes

module _ (side : List ℕ) (h : is_side side ≡ true) where
  -- name i of the code: its word, and the zeros behind it
  code_word : (i : ℕ) → i < word32 side 0 → word32 side (4 + 68 * i) ≡ length (get_or (names_in side) i [])
  code_word i k = ap (λ (s : List ℕ). word32 s (4 + 68 * i)) (coded_is side h) ∙ name_word (names_in side) (coded-fits side h) i (omega (arith, coded-count side h))

  code_name : (i : ℕ) → i < word32 side 0 → is_name (get_or (names_in side) i []) ≡ true
  code_name i k = names_at (names_in side) i (coded-fits side h).named (omega (arith, coded-count side h))

  code-zeros : (i : ℕ) → i < word32 side 0 → read (8 + 68 * i + word32 side (4 + 68 * i)) (64 - word32 side (4 + 68 * i)) side ≡ zeros (64 - word32 side (4 + 68 * i))
  code-zeros i k = go (get_or (names_in side) i []) (word32 side (4 + 68 * i)) (code_word i k) (coded_is side h ∙ at_word (names_in side) (coded-fits side h) i j)
    where
      j : i < length (names_in side)
      j = omega (arith, coded-count side h)

      front : length (ahead (names_in side) i) ≡ 4 + 68 * i
      front = length-ahead (names_in side) (coded-fits side h) i (omega (arith, j))

      go : (x : List ℕ) (n : ℕ) → n ≡ length x → side ≡ ahead (names_in side) i ++ (word_bytes (length x) ++ ((x ++ zeros (64 - length x)) ++ rest (names_in side) i)) → read (8 + 68 * i + n) (64 - n) side ≡ zeros (64 - n)
      go x n e p =
          let q : side ≡ ((ahead (names_in side) i ++ word_bytes (length x)) ++ x) ++ (zeros (64 - length x) ++ rest (names_in side) i) = p ∙ simp append_assoc in
          let m : length ((ahead (names_in side) i ++ word_bytes (length x)) ++ x) ≡ 8 + 68 * i + length x =
          length-append (ahead (names_in side) i ++ word_bytes (length x)) x ∙ omega (arith, front, length-append (ahead (names_in side) i) (word_bytes (length x)), length_word (length x)) in
          ap (λ (k : ℕ). read (8 + 68 * i + k) (64 - k) side) e
          ∙ ap (read (8 + 68 * i + length x) (64 - length x)) q
          ∙ read_at ((ahead (names_in side) i ++ word_bytes (length x)) ++ x) (zeros (64 - length x)) (rest (names_in side) i) (8 + 68 * i + length x) m (64 - length x) (length-replicate (64 - length x) 0)
          ∙ ap (λ (k : ℕ). zeros (64 - k)) (sym e)

  pub side_names : (i : ℕ) → i < word32 side 0 → is_name_at side i ≡ true
  unfolding is_name_at
  side_names i k =
      both
      (both (le-leb 1 (word32 side (4 + 68 * i)) (omega (arith, code_word i k, name_low (get_or (names_in side) i []) (code_name i k)))) (le-leb (word32 side (4 + 68 * i)) 64 (omega (arith, code_word i k, name_high (get_or (names_in side) i []) (code_name i k)))))
      (zero_is _ (64 - word32 side (4 + 68 * i)) (code-zeros i k))

  pub side_zeros : is_zero (drop (4 + 68 * word32 side 0) side) ≡ true
  side_zeros = zero_is (drop (4 + 68 * word32 side 0) side) (476 - 68 * length (names_in side)) tail
    where
      tail : drop (4 + 68 * word32 side 0) side ≡ zeros (476 - 68 * length (names_in side))
      tail =
          let c : word32 side 0 ≡ length (names_in side) = coded-count side h in
          let m : length (word_bytes (length (names_in side)) ++ names_code (names_in side)) ≡ 4 + 68 * word32 side 0 =
          length-append (word_bytes (length (names_in side))) (names_code (names_in side)) ∙ omega (arith, length_word (length (names_in side)), length_names (names_in side) (coded-fits side h).named) in
          ap (drop (4 + 68 * word32 side 0)) (coded_is side h ∙ side_pieces (names_in side) (coded-fits side h) ∙ sym (append_assoc (word_bytes (length (names_in side))) (names_code (names_in side)) (zeros (476 - 68 * length (names_in side)))))
          ∙ drop_at (word_bytes (length (names_in side)) ++ names_code (names_in side)) (zeros (476 - 68 * length (names_in side))) (4 + 68 * word32 side 0) m
