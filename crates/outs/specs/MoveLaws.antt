-- A side's bytes after a name went out, or came back.
use Prim.Native.Nat.{ℕ, suc, ◌+◌, ◌-◌, ◌*◌, ◌≤◌, ◌<◌}
use Rattle.std.specs.Prelude.{◌≡◌, refl, true}
use Rattle.std.proofs.Math.Path.{sym, ap}
use Rattle.std.proofs.Common.{◌∙◌, arith, length-drop, length-take, drop_of_length-le, take_at}
use mathlib.Core.List.{List, [], ◌∷◌, ◌++◌, append_assoc, append-nil}
use Rattle.std.proofs.Math.ListN.{length, take, drop, length-append}
use Rattle.std.proofs.lemmas.List.{length-replicate}
use Rattle.std.specs.List.{copy_within}
use borrow.Rule.Slice.PartMut.{put_mid}
use Rattle.words.specs.Word.{word32, with_word32}
use Rattle.words.specs.Run.{read, put}
use Rattle.words.specs.WordLaws.{length-with_word32}
use Rattle.words.specs.RunLaws.{length-read}
use Rattle.outs.specs.Outs.{is_name}
use Rattle.outs.specs.Coding.{zeros, side_bytes, word_bytes, name_code, names_code, side_code, names_in, is_side}
use Rattle.outs.specs.PieceLaws.{read_at, put-at, length_word, word_put, zeros_add}
use Rattle.outs.specs.SideLaws.{name_high, names_append, names_rest, names_first, name_pieces, length_name, names_code_cons, names_code-append, names_code_one, length_names, SideFits, side_pieces, length_side, coded-fits, coded_is, coded-count, coded-length}

-- ---- the names moved down

-- the names behind the first, one place down: 408 bytes from 72 on moved to 4 on
abbrev moved : List ℕ → List ℕ
moved s = take 4 s ++ (read 72 408 s ++ drop 412 s)

moved_is : (s : List ℕ) {u : List ℕ} → u ≡ copy_within s 72 480 4 → u ≡ moved s
unfolding read
moved_is s e = e ∙ append_assoc (take 4 s) (take 408 (drop 72 s)) (drop 412 s)

length_moved : (s : List ℕ) → length s ≡ side_bytes → length (moved s) ≡ side_bytes
length_moved s h =
    length-append (take 4 s) (read 72 408 s ++ drop 412 s)
    ∙ omega (arith, length-take 4 s, length-append (read 72 408 s) (drop 412 s), length-read 72 408 s (omega arith), length-drop 412 s)

-- ---- a name comes back

-- a side with a name in front: the count put, the rest moved down, the last place cleared
module _ (x : List ℕ) (l : List (List ℕ)) (f : SideFits (x ∷ l)) where
  rest-fits : SideFits l
  rest-fits = record { seven = omega (arith, f.seven); named = names_rest x l f.named }

  -- the names behind it, and zeros
  length-behind : length (names_code l ++ zeros (476 - 68 * suc (length l))) ≡ 408
  length-behind =
      length-append (names_code l) (zeros (476 - 68 * suc (length l)))
      ∙ omega (arith, length_names l rest-fits.named, length-replicate {A = ℕ} (476 - 68 * suc (length l)) 0, f.seven)

  first_pieces : side_code (x ∷ l) ≡ word_bytes (suc (length l)) ++ (name_code x ++ (names_code l ++ zeros (476 - 68 * suc (length l))))
  first_pieces =
      side_pieces (x ∷ l) f
      ∙ ap (λ (r : List ℕ). word_bytes (suc (length l)) ++ (r ++ zeros (476 - 68 * suc (length l)))) (names_code_cons x l)
      ∙ ap (λ (r : List ℕ). word_bytes (suc (length l)) ++ r) (append_assoc (name_code x) (names_code l) (zeros (476 - 68 * suc (length l))))

  -- after the count
  counted : with_word32 (side_code (x ∷ l)) 0 (length l) ≡ word_bytes (length l) ++ (name_code x ++ (names_code l ++ zeros (476 - 68 * suc (length l))))
  counted =
      word_put (side_code (x ∷ l)) 0 (length l) (omega (arith, length_side (x ∷ l) f))
      ∙ ap (put 0 (word_bytes (length l))) first_pieces
      ∙ put-at [] (word_bytes (suc (length l))) (name_code x ++ (names_code l ++ zeros (476 - 68 * suc (length l)))) 0 refl (word_bytes (length l)) (length_word (suc (length l)) ∙ sym (length_word (length l)))

  -- what is left is the code of the others
  shorter : word_bytes (length l) ++ ((names_code l ++ zeros (476 - 68 * suc (length l))) ++ zeros 68) ≡ side_code l
  shorter =
      ap (λ (r : List ℕ). word_bytes (length l) ++ r) (append_assoc (names_code l) (zeros (476 - 68 * suc (length l))) (zeros 68) ∙ ap (λ (r : List ℕ). names_code l ++ r) (zeros_add (476 - 68 * suc (length l)) 68 (476 - 68 * length l) (omega (arith, f.seven))))
      ∙ sym (side_pieces l rest-fits)

  front_word : (r : List ℕ) → take 4 (word_bytes (length l) ++ r) ≡ word_bytes (length l)
  front_word r = take_at (word_bytes (length l)) r 4 (length_word (length l))

  moved-rest : read 72 408 (word_bytes (length l) ++ (name_code x ++ (names_code l ++ zeros (476 - 68 * suc (length l))))) ≡ names_code l ++ zeros (476 - 68 * suc (length l))
  moved-rest =
      ap (read 72 408) (sym (append_assoc (word_bytes (length l)) (name_code x) (names_code l ++ zeros (476 - 68 * suc (length l)))) ∙ ap (λ (r : List ℕ). (word_bytes (length l) ++ name_code x) ++ r) (sym (append-nil (names_code l ++ zeros (476 - 68 * suc (length l))))))
      ∙ read_at (word_bytes (length l) ++ name_code x) (names_code l ++ zeros (476 - 68 * suc (length l))) [] 72 (length-append (word_bytes (length l)) (name_code x) ∙ omega (arith, length_word (length l), length_name x (name_high x (names_first x l f.named)))) 408 length-behind

  back-code : {t u : List ℕ} → t ≡ with_word32 (side_code (x ∷ l)) 0 (length l) → u ≡ moved t → take 412 u ++ zeros 68 ≡ side_code l
  back-code {t} {u} e q =
      let p : t ≡ word_bytes (length l) ++ (name_code x ++ (names_code l ++ zeros (476 - 68 * suc (length l)))) = e ∙ counted in
      let a : take 4 t ≡ word_bytes (length l) = ap (take 4) p ∙ front_word (name_code x ++ (names_code l ++ zeros (476 - 68 * suc (length l)))) in
      let b : read 72 408 t ≡ names_code l ++ zeros (476 - 68 * suc (length l)) = ap (read 72 408) p ∙ moved-rest in
      let n : length (word_bytes (length l) ++ (names_code l ++ zeros (476 - 68 * suc (length l)))) ≡ 412 = length-append (word_bytes (length l)) (names_code l ++ zeros (476 - 68 * suc (length l))) ∙ omega (arith, length_word (length l), length-behind) in
      let v : u ≡ (word_bytes (length l) ++ (names_code l ++ zeros (476 - 68 * suc (length l)))) ++ drop 412 t =
      q ∙ ap (λ (r : List ℕ). r ++ (read 72 408 t ++ drop 412 t)) a ∙ ap (λ (r : List ℕ). word_bytes (length l) ++ (r ++ drop 412 t)) b ∙ sym (append_assoc (word_bytes (length l)) (names_code l ++ zeros (476 - 68 * suc (length l))) (drop 412 t)) in
      ap (λ (r : List ℕ). take 412 r ++ zeros 68) v
      ∙ ap (λ (r : List ℕ). r ++ zeros 68) (take_at (word_bytes (length l) ++ (names_code l ++ zeros (476 - 68 * suc (length l)))) (drop 412 t) 412 n)
      ∙ append_assoc (word_bytes (length l)) (names_code l ++ zeros (476 - 68 * suc (length l))) (zeros 68)
      ∙ shorter

-- as the code leaves it: the last 68 bytes are a part that is lent and cleared
back_part : (u w : List ℕ) → length u ≡ 480 → w ≡ zeros (length (take (length u - 412) (drop 412 u))) → put_mid 412 (length u - 412) u w ≡ take 412 u ++ zeros 68
back_part u w h e =
    let a : length (take (length u - 412) (drop 412 u)) ≡ 68 = length-take (length u - 412) (drop 412 u) ∙ omega (arith, length-drop 412 u) in
    let b : drop (length u - 412) (drop 412 u) ≡ [] = drop_of_length-le (drop 412 u) {i = length u - 412} (omega (arith, length-drop 412 u)) in
    ap (λ (r : List ℕ). take 412 u ++ (w ++ r)) b
    ∙ ap (λ (r : List ℕ). take 412 u ++ r) (append-nil w ∙ e ∙ ap zeros a)

pub came_back : (side : List ℕ) {n : ℕ} {t u w : List ℕ} → is_side side ≡ true → n ≡ word32 side 0 → 1 ≤ word32 side 0 → t ≡ with_word32 side 0 (n - 1) → u ≡ copy_within t 72 480 4 → w ≡ zeros (length (take (length u - 412) (drop 412 u))) → put_mid 412 (length u - 412) u w ≡ side_code (drop 1 (names_in side))
came_back side {n} {t} {u} {w} h c k e q z = back_part u w (ap length (moved_is t q) ∙ length_moved t (ap length e ∙ length-with_word32 side 0 (n - 1) ∙ coded-length side h)) z ∙ go (names_in side) (coded_is side h) (coded-fits side h) (c ∙ coded-count side h) e
  where
    go : (l : List (List ℕ)) → side ≡ side_code l → SideFits l → n ≡ length l → t ≡ with_word32 side 0 (n - 1) → take 412 u ++ zeros 68 ≡ side_code (drop 1 l)
    go [] p f j e = absurd (omega arith)
    go (x ∷ l) p f j e =
        let i : n - 1 ≡ length l = omega arith in
        back-code x l f (e ∙ ap (λ (s : List ℕ). with_word32 s 0 (n - 1)) p ∙ ap (with_word32 (side_code (x ∷ l)) 0) i) (moved_is t q)

-- ---- a name goes out

regroup : (a b c d e f : List ℕ) → a ++ ((b ++ (c ++ (d ++ e))) ++ f) ≡ ((a ++ b) ++ c) ++ (d ++ (e ++ f))
regroup a b c d e f = simp append_assoc

module _ (l : List (List ℕ)) (name : List ℕ) (f : SideFits l) (g : is_name name ≡ true) (k : length l < 7) where
  more-fits : SideFits (l ++ (name ∷ []))
  more-fits = record { seven = omega (arith, length-append l (name ∷ [])); named = names_append l name f.named g }

  -- the zeros that the name takes
  spare : zeros (476 - 68 * length l) ≡ zeros 4 ++ (zeros (length name) ++ zeros (472 - 68 * length l - length name))
  spare =
      let m : length name ≤ 64 = name_high name g in
      sym (ap (λ (r : List ℕ). zeros 4 ++ r) (zeros_add (length name) (472 - 68 * length l - length name) (472 - 68 * length l) (omega arith)) ∙ zeros_add 4 (472 - 68 * length l) (476 - 68 * length l) (omega arith))

  -- what stands before its word
  before : length (word_bytes (length l + 1) ++ names_code l) ≡ 4 + 68 * length l
  before = length-append (word_bytes (length l + 1)) (names_code l) ∙ omega (arith, length_word (length l + 1), length_names l f.named)

  put_count : with_word32 (side_code l) 0 (length l + 1) ≡ (word_bytes (length l + 1) ++ names_code l) ++ (zeros 4 ++ (zeros (length name) ++ zeros (472 - 68 * length l - length name)))
  put_count =
      word_put (side_code l) 0 (length l + 1) (omega (arith, length_side l f))
      ∙ ap (put 0 (word_bytes (length l + 1))) (side_pieces l f)
      ∙ put-at [] (word_bytes (length l)) (names_code l ++ zeros (476 - 68 * length l)) 0 refl (word_bytes (length l + 1)) (length_word (length l) ∙ sym (length_word (length l + 1)))
      ∙ ap (λ (r : List ℕ). word_bytes (length l + 1) ++ (names_code l ++ r)) spare
      ∙ sym (append_assoc (word_bytes (length l + 1)) (names_code l) (zeros 4 ++ (zeros (length name) ++ zeros (472 - 68 * length l - length name))))

  -- the code of one more
  longer : side_code (l ++ (name ∷ [])) ≡ ((word_bytes (length l + 1) ++ names_code l) ++ word_bytes (length name)) ++ (name ++ zeros (472 - 68 * length l - length name))
  longer =
      let m : length name ≤ 64 = name_high name g in
      let n : length (l ++ (name ∷ [])) ≡ length l + 1 = length-append l (name ∷ []) in
      let z : zeros (64 - length name) ++ zeros (476 - 68 * (length l + 1)) ≡ zeros (472 - 68 * length l - length name) =
      zeros_add (64 - length name) (476 - 68 * (length l + 1)) (472 - 68 * length l - length name) (omega arith) in
      side_pieces (l ++ (name ∷ [])) more-fits
      ∙ ap (λ (k : ℕ). word_bytes k ++ (names_code (l ++ (name ∷ [])) ++ zeros (476 - 68 * k))) n
      ∙ ap (λ (r : List ℕ). word_bytes (length l + 1) ++ (r ++ zeros (476 - 68 * (length l + 1)))) (names_code-append l (name ∷ []) ∙ ap (λ (r : List ℕ). names_code l ++ r) (names_code_one name ∙ name_pieces name m))
      ∙ regroup (word_bytes (length l + 1)) (names_code l) (word_bytes (length name)) name (zeros (64 - length name)) (zeros (476 - 68 * (length l + 1)))
      ∙ ap (λ (r : List ℕ). ((word_bytes (length l + 1) ++ names_code l) ++ word_bytes (length name)) ++ (name ++ r)) z

  out-code : {t u v : List ℕ} → t ≡ with_word32 (side_code l) 0 (length l + 1) → u ≡ with_word32 t (4 + 68 * length l) (length name) → v ≡ put (4 + 68 * length l + 4) name u → v ≡ side_code (l ++ (name ∷ []))
  out-code {t} {u} {v} e p q =
      let m : length name ≤ 64 = name_high name g in
      let w : t ≡ (word_bytes (length l + 1) ++ names_code l) ++ (zeros 4 ++ (zeros (length name) ++ zeros (472 - 68 * length l - length name))) = e ∙ put_count in
      let j : length t ≡ 480 = ap length e ∙ length-with_word32 (side_code l) 0 (length l + 1) ∙ length_side l f in
      let x : u ≡ (word_bytes (length l + 1) ++ names_code l) ++ (word_bytes (length name) ++ (zeros (length name) ++ zeros (472 - 68 * length l - length name))) =
      p ∙ word_put t (4 + 68 * length l) (length name) (omega arith) ∙ ap (put (4 + 68 * length l) (word_bytes (length name))) w ∙ put-at (word_bytes (length l + 1) ++ names_code l) (zeros 4) (zeros (length name) ++ zeros (472 - 68 * length l - length name)) (4 + 68 * length l) before (word_bytes (length name)) (sym (length_word (length name))) in
      q
      ∙ ap (put (4 + 68 * length l + 4) name) (x ∙ sym (append_assoc (word_bytes (length l + 1) ++ names_code l) (word_bytes (length name)) (zeros (length name) ++ zeros (472 - 68 * length l - length name))))
      ∙ put-at ((word_bytes (length l + 1) ++ names_code l) ++ word_bytes (length name)) (zeros (length name)) (zeros (472 - 68 * length l - length name)) (4 + 68 * length l + 4) (length-append (word_bytes (length l + 1) ++ names_code l) (word_bytes (length name)) ∙ omega (arith, before, length_word (length name))) name (length-replicate (length name) 0)
      ∙ sym longer

pub went_out : (side name : List ℕ) {n : ℕ} {t u v : List ℕ} → is_side side ≡ true → is_name name ≡ true → n ≡ word32 side 0 → word32 side 0 < 7 → t ≡ with_word32 side 0 (n + 1) → u ≡ with_word32 t (4 + 68 * n) (length name) → v ≡ put (4 + 68 * n + 4) name u → v ≡ side_code (names_in side ++ (name ∷ []))
went_out side name {n} {t} {u} {v} h g c k e p q =
    let i : n ≡ length (names_in side) = c ∙ coded-count side h in
    out-code (names_in side) name (coded-fits side h) g (omega arith)
    (e ∙ ap (λ (s : List ℕ). with_word32 s 0 (n + 1)) (coded_is side h) ∙ ap (λ (m : ℕ). with_word32 (side_code (names_in side)) 0 (m + 1)) i)
    (p ∙ ap (λ (m : ℕ). with_word32 t (4 + 68 * m) (length name)) i)
    (q ∙ ap (λ (m : ℕ). put (4 + 68 * m + 4) name u) i)
