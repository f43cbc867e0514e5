-- What an event leaves in the bytes: a law for each way out of the functions that write.
use Rattle.std.specs.Prelude.{ℕ, ◌+◌, ◌/◌, ◌%◌, ◌≤◌, ◌<◌, ◌≡◌, refl, Bool, true, false, ◌&&◌, ◌||◌, eqb, take}
use Rattle.std.proofs.Common.{sym, ◌∙◌, arith, length-append, length-drop, drop_of_length-le, drop-drop, eq-eqb, ne_eqb}
use Rattle.std.proofs.Math.Path.{ap}
use mathlib.Core.List.{List, [], ◌∷◌, ◌++◌, append_assoc, append-nil}
use Rattle.std.specs.Prelude.{Some}
use Rattle.std.proofs.Math.ListN.{length, drop}
use Rattle.std.proofs.Math.Seq.{drop_at, length-take-le}
use borrow.Rule.Slice.PartMut.{put_mid}
use Rattle.words.specs.Word.{word32, with_word32}
use Rattle.words.specs.WordLaws.{length-with_word32}
use Rattle.words.specs.Run.{read, put}
use Rattle.words.specs.RunLaws.{length-read}
use Rattle.outs.specs.Outs.{What, revive, Strip, refusal_on, refusal_for, changed, accepted, took, is_name, in_range, side_of, what_of, event_of, given_number, given_took}
use Rattle.outs.proofs.OutsLaws.{took-accepted, took-refused, accepted_on}
use Rattle.outs.specs.KeepLaws.{out-seven}
use Rattle.outs.specs.Coding.{strip_bytes, side_bytes, word_bytes, side_code, last_code, code_of, names_in, strip_of, is_side, is_strip, strip_fault, event_answer, event_leaves}
use Rattle.outs.specs.PieceLaws.{right_of, read_add, read_all, read-rest, put-at, length_word, word_put}
use Rattle.outs.specs.SideLaws.{coded-count}
use Rattle.outs.specs.CodingLaws.{strip-code, strip-length, first_is, second_is}
use Rattle.outs.specs.StripTests.{fault-none}
use Rattle.outs.proofs.ReadExits.{what_out, what_revive, first_names_lent, second_names_lent, side_one, side_two}

-- ---- the last number

-- the first 12 bytes are three words, whatever they are
four-parts : (b : List ℕ) → length b ≡ strip_bytes → b ≡ read 0 4 b ++ (read 4 4 b ++ (read 8 4 b ++ drop 12 b))
four-parts b h =
    sym (read_all 972 b h)
    ∙ read_add 0 4 968 b
    ∙ ap (λ (r : List ℕ). read 0 4 b ++ r) (read_add 4 4 964 b)
    ∙ ap (λ (r : List ℕ). read 0 4 b ++ (read 4 4 b ++ r)) (read_add 8 4 960 b)
    ∙ ap (λ (r : List ℕ). read 0 4 b ++ (read 4 4 b ++ (read 8 4 b ++ r))) (read-rest 12 960 b (omega arith))

-- three words put one behind the other
three_put : (p q r s : List ℕ) {t u v : List ℕ} (x y z : ℕ) → length p ≡ 4 → length q ≡ 4 → length r ≡ 4 → t ≡ with_word32 (p ++ (q ++ (r ++ s))) 0 x → u ≡ with_word32 t 4 y → v ≡ with_word32 u 8 z → v ≡ (word_bytes x ++ (word_bytes y ++ word_bytes z)) ++ s
three_put p q r s {t} {u} {v} x y z a b c e f g =
    let n : length (p ++ (q ++ (r ++ s))) ≡ 12 + length s = length-append p (q ++ (r ++ s)) ∙ omega (arith, length-append q (r ++ s), length-append r s) in
    let k : length t ≡ 12 + length s = ap length e ∙ length-with_word32 (p ++ (q ++ (r ++ s))) 0 x ∙ n in
    let j : length u ≡ 12 + length s = ap length f ∙ length-with_word32 t 4 y ∙ k in
    let d : t ≡ word_bytes x ++ (q ++ (r ++ s)) = e ∙ word_put (p ++ (q ++ (r ++ s))) 0 x (omega arith) ∙ put-at [] p (q ++ (r ++ s)) 0 refl (word_bytes x) (a ∙ sym (length_word x)) in
    let h : u ≡ word_bytes x ++ (word_bytes y ++ (r ++ s)) = f ∙ word_put t 4 y (omega arith) ∙ ap (put 4 (word_bytes y)) d ∙ put-at (word_bytes x) q (r ++ s) 4 (length_word x) (word_bytes y) (b ∙ sym (length_word y)) in
    g
    ∙ word_put u 8 z (omega arith)
    ∙ ap (put 8 (word_bytes z)) (h ∙ sym (append_assoc (word_bytes x) (word_bytes y) (r ++ s)))
    ∙ put-at (word_bytes x ++ word_bytes y) r s 8 (length-append (word_bytes x) (word_bytes y) ∙ omega (arith, length_word x, length_word y)) (word_bytes z) (c ∙ sym (length_word z))
    ∙ regroup (word_bytes x) (word_bytes y) (word_bytes z) s
  where
    regroup : (a b c d : List ℕ) → (a ++ b) ++ (c ++ d) ≡ (a ++ (b ++ c)) ++ d
    regroup a b c d = simp append_assoc

pub last-put : (b : List ℕ) {t u v : List ℕ} (n : ℕ) → length b ≡ strip_bytes → t ≡ with_word32 b 0 1 → u ≡ with_word32 t 4 (n % 4294967296) → v ≡ with_word32 u 8 (n / 4294967296) → v ≡ last_code (Some n) ++ drop 12 b
unfolding last_code
last-put b n h e p q =
    three_put (read 0 4 b) (read 4 4 b) (read 8 4 b) (drop 12 b) 1 (n % 4294967296) (n / 4294967296) (length-read 0 4 b (omega arith)) (length-read 4 4 b (omega arith)) (length-read 8 4 b (omega arith)) (e ∙ ap (λ (s : List ℕ). with_word32 s 0 1) (four-parts b h)) p q

-- ---- a side

module _ (side name : List ℕ) (e : ℕ) where
  pub out_room : is_side side ≡ true → refusal_on (names_in side) (what_of e name) ≡ 0 → e ≡ 1 → word32 side 0 < 7
  out_room h z k = omega (arith, coded-count side h, out-seven (names_in side) name (sym (ap (refusal_on (names_in side)) (what_out e name k)) ∙ z))

  pub somebody : is_side side ≡ true → refusal_on (names_in side) (what_of e name) ≡ 0 → (e ≡ 1 → ⊥) → 1 ≤ word32 side 0
  somebody h z k = go (names_in side) (coded-count side h) (sym (ap (refusal_on (names_in side)) (what_revive e name k)) ∙ z)
    where
      go : (l : List (List ℕ)) → word32 side 0 ≡ length l → refusal_on l revive ≡ 0 → 1 ≤ word32 side 0
      go [] c r = absurd (omega arith)
      go (x ∷ l) c r = omega arith

  pub changed-out : {t : List ℕ} → e ≡ 1 → t ≡ side_code (names_in side ++ (name ∷ [])) → t ≡ side_code (changed (names_in side) (what_of e name))
  changed-out k q = q ∙ ap (λ (w : What). side_code (changed (names_in side) w)) (sym (what_out e name k))

  pub changed-back : {t : List ℕ} → (e ≡ 1 → ⊥) → t ≡ side_code (drop 1 (names_in side)) → t ≡ side_code (changed (names_in side) (what_of e name))
  changed-back k q = q ∙ ap (λ (w : What). side_code (changed (names_in side) w)) (sym (what_revive e name k))

-- ---- the strip

pub range_name : (d e : ℕ) (name : List ℕ) {r : Bool} → r ≡ in_range d e name → r ≡ true → is_name name ≡ true
unfolding in_range
range_name d e name p t = right_of ((eqb d 1 || eqb d 2) && (eqb e 1 || eqb e 2)) (is_name name) (sym p ∙ t)

pub not_refused : (s : Strip) (n d e : ℕ) (name : List ℕ) {v : ℕ} → v ≡ refusal_for s (event_of n d e name) → v ≡ 0 → refusal_for s (event_of n d e name) ≡ 0
not_refused s n d e name p z = sym p ∙ z

accepted_one : (s : Strip) (n d e : ℕ) (name : List ℕ) → d ≡ 1 → accepted s (event_of n d e name) ≡ record { last = Some n; first = changed s.first (what_of e name); second = s.second }
unfolding accepted side_of
accepted_one s n d e name h = rw (eq-eqb d 1 h)

accepted_two : (s : Strip) (n d e : ℕ) (name : List ℕ) → (d ≡ 1 → ⊥) → accepted s (event_of n d e name) ≡ record { last = Some n; first = s.first; second = changed s.second (what_of e name) }
unfolding accepted side_of
accepted_two s n d e name h = rw (ne_eqb d 1 h)

front_read_lem : (b : List ℕ) → take 492 b ≡ read 0 492 b
unfolding read
front_read_lem b = refl

module _ (b name : List ℕ) (n d e : ℕ) (h : is_strip b ≡ true) where
  -- what a side is asked, of the part that is lent
  pub first-asked : refusal_for (strip_of b) (event_of n d e name) ≡ 0 → d ≡ 1 → refusal_on (names_in (take 480 (drop 12 b))) (what_of e name) ≡ 0
  first-asked z k = ap (λ (l : List (List ℕ)). refusal_on l (what_of e name)) (first_names_lent b ∙ sym (side_one (strip_of b) d k)) ∙ accepted_on (strip_of b) (event_of n d e name) z

  pub second_asked : refusal_for (strip_of b) (event_of n d e name) ≡ 0 → (d ≡ 1 → ⊥) → refusal_on (names_in (take 480 (drop 492 b))) (what_of e name) ≡ 0
  second_asked z k = ap (λ (l : List (List ℕ)). refusal_on l (what_of e name)) (second_names_lent b ∙ sym (side_two (strip_of b) d k)) ∙ accepted_on (strip_of b) (event_of n d e name) z

  -- side 2 stands to the end
  second_rest : drop 492 b ≡ side_code (strip_of b).second
  second_rest = sym (read-rest 492 480 b (omega (arith, strip-length b h))) ∙ second_is b h

  pub took-first : {w t : List ℕ} → d ≡ 1 → w ≡ side_code (changed (names_in (take 480 (drop 12 b))) (what_of e name)) → t ≡ last_code (Some n) ++ drop 12 (put_mid 12 480 b w) → t ≡ code_of (accepted (strip_of b) (event_of n d e name))
  unfolding code_of
  took-first {w} {t} k p q =
      let l : length (take 12 b) ≡ 12 = length-take-le 12 b (omega (arith, strip-length b h)) in
      let r : drop 12 (put_mid 12 480 b w) ≡ w ++ drop 492 b = drop_at (take 12 b) (w ++ drop 480 (drop 12 b)) 12 l ∙ ap (λ (x : List ℕ). w ++ x) (drop-drop 480 12 b) in
      q
      ∙ ap (λ (x : List ℕ). last_code (Some n) ++ x) (r ∙ ap (λ (x : List ℕ). w ++ x) second_rest ∙ ap (λ (x : List ℕ). x ++ side_code (strip_of b).second) (p ∙ ap (λ (m : List (List ℕ)). side_code (changed m (what_of e name))) (first_names_lent b)))
      ∙ ap code_of (sym (accepted_one (strip_of b) n d e name k))

  -- side 1 stands as it did
  first_stays : (w : List ℕ) → drop 12 (put_mid 492 480 b w) ≡ read 12 side_bytes b ++ w
  first_stays w =
      let l : length (read 0 12 b) ≡ 12 = length-read 0 12 b (omega (arith, strip-length b h)) in
      let z : drop 480 (drop 492 b) ≡ [] = drop_of_length-le (drop 492 b) {i = 480} (omega (arith, length-drop 492 b, strip-length b h)) in
      ap (λ (x : List ℕ). drop 12 (take 492 b ++ (w ++ x))) z
      ∙ ap (λ (x : List ℕ). drop 12 (take 492 b ++ x)) (append-nil w)
      ∙ ap (λ (x : List ℕ). drop 12 (x ++ w)) (front_read_lem b ∙ read_add 0 12 480 b)
      ∙ ap (drop 12) (append_assoc (read 0 12 b) (read 12 480 b) w)
      ∙ drop_at (read 0 12 b) (read 12 480 b ++ w) 12 l

  pub took_second : {w t : List ℕ} → (d ≡ 1 → ⊥) → w ≡ side_code (changed (names_in (take 480 (drop 492 b))) (what_of e name)) → t ≡ last_code (Some n) ++ drop 12 (put_mid 492 480 b w) → t ≡ code_of (accepted (strip_of b) (event_of n d e name))
  unfolding code_of
  took_second {w} {t} k p q =
      q
      ∙ ap (λ (x : List ℕ). last_code (Some n) ++ x) (first_stays w ∙ ap (λ (x : List ℕ). x ++ w) (first_is b h) ∙ ap (λ (x : List ℕ). side_code (strip_of b).first ++ x) (p ∙ ap (λ (m : List (List ℕ)). side_code (changed m (what_of e name))) (second_names_lent b)))
      ∙ ap code_of (sym (accepted_two (strip_of b) n d e name k))

-- a fault is no strip
no_strip : (b : List ℕ) {v : ℕ} → v ≡ strip_fault b → (v ≡ 0 → ⊥) → is_strip b ≡ false
no_strip b {v} q z = go (is_strip b) refl
  where
    go : (c : Bool) → is_strip b ≡ c → is_strip b ≡ false
    go true t = absurd (z (q ∙ sym (fault-none b (strip-length b t) (sym t) refl)))
    go false t = t

-- ---- a row's four values

module _ (s : Strip) (name : List ℕ) (n d e : ℕ) where
  pub given-refused : {r : Bool} {v : ℕ} → r ≡ in_range d e name → r ≡ true → v ≡ refusal_for s (event_of n d e name) → v ≡ given_number s n d e name
  unfolding given_number
  given-refused p t q = rw (← p, t) q

  pub given_out_of_range : {r : Bool} → r ≡ in_range d e name → r ≡ false → 31 ≡ given_number s n d e name
  unfolding given_number
  given_out_of_range p t = rw (← p, t)

  pub given-accepted : {r : Bool} {v : ℕ} → r ≡ in_range d e name → r ≡ true → v ≡ refusal_for s (event_of n d e name) → v ≡ 0 → 0 ≡ given_number s n d e name
  given-accepted p t q z = sym z ∙ given-refused p t q

  pub in_range_took : {r : Bool} → r ≡ in_range d e name → r ≡ true → given_took s n d e name ≡ took s (event_of n d e name)
  unfolding given_took
  in_range_took p t = rw (← p, t)

  pub given-took : {r : Bool} {v : ℕ} → r ≡ in_range d e name → r ≡ true → v ≡ refusal_for s (event_of n d e name) → v ≡ 0 → given_took s n d e name ≡ accepted s (event_of n d e name)
  given-took p t q z = in_range_took p t ∙ took-accepted s (event_of n d e name) (sym q ∙ z)

  pub given-kept : {r : Bool} {v : ℕ} → r ≡ in_range d e name → r ≡ true → v ≡ refusal_for s (event_of n d e name) → (v ≡ 0 → ⊥) → given_took s n d e name ≡ s
  given-kept p t q z = in_range_took p t ∙ took-refused s (event_of n d e name) (λ w. z (q ∙ w))

  pub given_not_taken : {r : Bool} → r ≡ in_range d e name → r ≡ false → given_took s n d e name ≡ s
  unfolding given_took
  given_not_taken p t = rw (← p, t)

-- as the bytes show it
module _ (b name : List ℕ) (n d e : ℕ) where
  pub leaves-taken : {r : Bool} {v : ℕ} {t : List ℕ} → r ≡ in_range d e name → r ≡ true → v ≡ refusal_for (strip_of b) (event_of n d e name) → v ≡ 0 → t ≡ code_of (accepted (strip_of b) (event_of n d e name)) → t ≡ code_of (given_took (strip_of b) n d e name)
  leaves-taken p t q z u = u ∙ ap code_of (sym (given-took (strip_of b) name n d e p t q z))

  pub leaves-refused : {r : Bool} {v : ℕ} → is_strip b ≡ true → r ≡ in_range d e name → r ≡ true → v ≡ refusal_for (strip_of b) (event_of n d e name) → (v ≡ 0 → ⊥) → b ≡ code_of (given_took (strip_of b) n d e name)
  leaves-refused h p t q z = strip-code b h ∙ ap code_of (sym (given-kept (strip_of b) name n d e p t q z))

  pub leaves_out_of_range : {r : Bool} → is_strip b ≡ true → r ≡ in_range d e name → r ≡ false → b ≡ code_of (given_took (strip_of b) n d e name)
  leaves_out_of_range h p t = strip-code b h ∙ ap code_of (sym (given_not_taken (strip_of b) name n d e p t))

  -- any bytes
  pub any_answer : {r : ℕ} → is_strip b ≡ true → r ≡ given_number (strip_of b) n d e name → r ≡ event_answer b n d e name
  unfolding event_answer
  any_answer h q = rw h q

  pub any_leaves : {t : List ℕ} → is_strip b ≡ true → t ≡ code_of (given_took (strip_of b) n d e name) → t ≡ event_leaves b n d e name
  unfolding event_leaves
  any_leaves h q = rw h q

  pub any_fault : {v : ℕ} → v ≡ strip_fault b → (v ≡ 0 → ⊥) → v ≡ event_answer b n d e name
  unfolding event_answer
  any_fault q z = rw (no_strip b q z) q

  pub any_stays : {v : ℕ} → v ≡ strip_fault b → (v ≡ 0 → ⊥) → b ≡ event_leaves b n d e name
  unfolding event_leaves
  any_stays q z = rw (no_strip b q z)
