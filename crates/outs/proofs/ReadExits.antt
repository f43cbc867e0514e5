-- Which number refuses an event, read from the bytes: a law for each way out.
use Rattle.std.specs.Prelude.{ℕ, zero, suc, ◌+◌, ◌-◌, ◌*◌, ◌≤◌, ◌<◌, ◌≡◌, refl, Bool, true, false, cond, List, [], ◌∷◌, ◌++◌, ltb, length, take, drop}
use Rattle.std.proofs.Common.{sym, ◌∙◌, ap, true≢false, arith, eq-eqb, ne_eqb, lt-ltb, le-ltb}
use Rattle.std.proofs.Math.Decide.{ℕ_discrete}
use Rattle.search.specs.Table.{same}
use Rattle.words.specs.Word.{word32}
use Rattle.words.specs.Run.{read}
use Rattle.outs.specs.Outs.{out, revive, Strip, out_on, among, is_above, refusal_on, refusal_for, side_of, what_of, event_of}
use Rattle.outs.specs.Coding.{name_in, first_names, names_in, last_in, strip_of, is_side, is_strip}
use Rattle.outs.specs.PieceLaws.{part_is}
use Rattle.outs.specs.KeepLaws.{among-append}
use Rattle.outs.specs.SideLaws.{coded-seven, coded_word, coded-count}
use Rattle.outs.specs.CodingLaws.{first_side, second_side}

-- ---- above the last number

pub above_none : (b : List ℕ) (n : ℕ) {f : ℕ} → f ≡ word32 b 0 → f ≡ 0 → true ≡ is_above (last_in b) n
unfolding last_in
above_none b n {f} e z = rw (← e, eq-eqb f 0 z)

pub above_some : (b : List ℕ) (n : ℕ) {f lo hi : ℕ} → f ≡ word32 b 0 → (f ≡ 0 → ⊥) → lo ≡ word32 b 4 → hi ≡ word32 b 8 → ltb (lo + hi * 4294967296) n ≡ is_above (last_in b) n
unfolding last_in
above_some b n {f} e z p q = rw (← e, ne_eqb f 0 z, p, q)

-- ---- among the names

-- name i, as a part that is lent
pub name_lent : (side : List ℕ) (i : ℕ) {n : ℕ} → n ≡ word32 side (4 + 68 * i) → take (8 + 68 * i + n - (8 + 68 * i)) (drop (8 + 68 * i) side) ≡ name_in side i
unfolding name_in
name_lent side i {n} e = part_is (8 + 68 * i) (8 + 68 * i + n) n side refl ∙ ap (λ (m : ℕ). read (8 + 68 * i) m side) e

pub name_part : (side name : List ℕ) (i : ℕ) {n : ℕ} {r : Bool} → n ≡ word32 side (4 + 68 * i) → r ≡ same name (take (8 + 68 * i + n - (8 + 68 * i)) (drop (8 + 68 * i) side)) → r ≡ same name (name_in side i)
name_part side name i e q = q ∙ ap (same name) (name_lent side i e)

-- a place below the count
pub below-seven : (side : List ℕ) {n : ℕ} {i : ℕ} → is_side side ≡ true → n ≡ word32 side 0 → i < n → i < 7
below-seven side h e l = omega (arith, coded-seven side h)

pub word_small : (side : List ℕ) {n : ℕ} {i : ℕ} → is_side side ≡ true → n ≡ word32 side 0 → i < n → word32 side (4 + 68 * i) ≤ 64
word_small side {n} {i} h e l = coded_word side h i (omega arith)

-- none yet, one more, found, none
pub out_none : (side name : List ℕ) → among name (first_names side 0) ≡ false
unfolding among first_names
out_none side name = refl

pub out-more : (side name : List ℕ) (i : ℕ) {r : Bool} → among name (first_names side i) ≡ false → r ≡ same name (name_in side i) → r ≡ false → among name (first_names side (i + 1)) ≡ false
unfolding first_names
out-more side name i {r} h q f =
    let e : i + 1 ≡ suc i = omega arith in
    rw e (among-append name (name_in side i) (first_names side i) h (sym q ∙ f))

among-left : (n x : List ℕ) (l : List (List ℕ)) → among n l ≡ true → among n (l ++ (x ∷ [])) ≡ true
unfolding among
among-left n x [] h = absurd (true≢false (sym h))
among-left n x (y ∷ l) h = go (same n y) (among-left n x l) h
  where
    go : (b : Bool) → (among n l ≡ true → among n (l ++ (x ∷ [])) ≡ true) → cond b true (among n l) ≡ true → cond b true (among n (l ++ (x ∷ []))) ≡ true
    go true r h = refl
    go false r h = r h

among-last : (n x : List ℕ) (l : List (List ℕ)) → same n x ≡ true → among n (l ++ (x ∷ [])) ≡ true
unfolding among
among-last n x [] h = rw h
among-last n x (y ∷ l) h = go (same n y) (among-last n x l h)
  where
    go : (b : Bool) → among n (l ++ (x ∷ [])) ≡ true → cond b true (among n (l ++ (x ∷ []))) ≡ true
    go true r = refl
    go false r = r

among-at : (side name : List ℕ) (i n : ℕ) → i < n → same name (name_in side i) ≡ true → among name (first_names side n) ≡ true
unfolding first_names
among-at side name i zero h q = absurd (omega arith)
among-at side name i (suc n) h q = go (among-at side name i n) (ℕ_discrete i n)
  where
    go : (i < n → same name (name_in side i) ≡ true → among name (first_names side n) ≡ true) → Dec (i ≡ n) → among name (first_names side n ++ (name_in side n ∷ [])) ≡ true
    go r (yes e) = among-last name (name_in side n) (first_names side n) (rw (← e) q)
    go r (no e) = among-left name (name_in side n) (first_names side n) (r (omega arith) q)

pub out_found : (side name : List ℕ) {n i : ℕ} {r : Bool} → n ≡ word32 side 0 → i < n → r ≡ same name (name_in side i) → r ≡ true → true ≡ among name (names_in side)
unfolding names_in
out_found side name {n} {i} e h q t = sym (among-at side name i (word32 side 0) (omega arith) (sym q ∙ t))

pub out-all : (side name : List ℕ) {n i : ℕ} → n ≡ word32 side 0 → among name (first_names side i) ≡ false → i ≤ n → n ≤ i → false ≡ among name (names_in side)
unfolding names_in
out-all side name {n} {i} e h a b = let q : i ≡ word32 side 0 = omega arith in sym (ap (λ (k : ℕ). among name (first_names side k)) (sym q) ∙ h)

-- ---- the numbers of a side

pub what_out : (e : ℕ) (name : List ℕ) → e ≡ 1 → what_of e name ≡ out name
unfolding what_of
what_out e name h = rw (eq-eqb e 1 h)

pub what_revive : (e : ℕ) (name : List ℕ) → (e ≡ 1 → ⊥) → what_of e name ≡ revive
unfolding what_of
what_revive e name h = rw (ne_eqb e 1 h)

on_out : (l : List (List ℕ)) (name : List ℕ) → length l < 7 → refusal_on l (out name) ≡ cond (among name l) 35 0
on_out l name h = rw (lt-ltb (length l) 7 h)

on_eighth : (l : List (List ℕ)) (name : List ℕ) → 7 ≤ length l → refusal_on l (out name) ≡ 33
on_eighth l name h = rw (le-ltb (length l) 7 h)

on_nobody : (l : List (List ℕ)) → length l ≡ 0 → refusal_on l revive ≡ 34
on_nobody l h = rw (eq-eqb (length l) 0 h)

on_revive : (l : List (List ℕ)) → (length l ≡ 0 → ⊥) → refusal_on l revive ≡ 0
on_revive l h = rw (ne_eqb (length l) 0 h)

module _ (side name : List ℕ) (e : ℕ) {n : ℕ} (h : is_side side ≡ true) (c : n ≡ word32 side 0) where
  count : n ≡ length (names_in side)
  count = c ∙ coded-count side h

  pub side_out_already : {r : Bool} → e ≡ 1 → n < 7 → r ≡ among name (names_in side) → r ≡ true → 35 ≡ refusal_on (names_in side) (what_of e name)
  side_out_already k l q t = sym (ap (refusal_on (names_in side)) (what_out e name k) ∙ on_out (names_in side) name (omega (arith, count)) ∙ ap (λ (b : Bool). cond b 35 0) (sym q ∙ t))

  pub side_goes_out : {r : Bool} → e ≡ 1 → n < 7 → r ≡ among name (names_in side) → r ≡ false → 0 ≡ refusal_on (names_in side) (what_of e name)
  side_goes_out k l q t = sym (ap (refusal_on (names_in side)) (what_out e name k) ∙ on_out (names_in side) name (omega (arith, count)) ∙ ap (λ (b : Bool). cond b 35 0) (sym q ∙ t))

  pub side_eighth : e ≡ 1 → 7 ≤ n → 33 ≡ refusal_on (names_in side) (what_of e name)
  side_eighth k l = sym (ap (refusal_on (names_in side)) (what_out e name k) ∙ on_eighth (names_in side) name (omega (arith, count)))

  pub side_nobody : (e ≡ 1 → ⊥) → n ≡ 0 → 34 ≡ refusal_on (names_in side) (what_of e name)
  side_nobody k l = sym (ap (refusal_on (names_in side)) (what_revive e name k) ∙ on_nobody (names_in side) (omega (arith, count)))

  pub side_comes_back : (e ≡ 1 → ⊥) → (n ≡ 0 → ⊥) → 0 ≡ refusal_on (names_in side) (what_of e name)
  side_comes_back k l = sym (ap (refusal_on (names_in side)) (what_revive e name k) ∙ on_revive (names_in side) (λ z. l (count ∙ z)))

-- ---- the number of an event

-- the parts that the code lends
pub first_lent : (b : List ℕ) → is_strip b ≡ true → is_side (take 480 (drop 12 b)) ≡ true
unfolding read
first_lent b h = first_side b h

pub second_lent : (b : List ℕ) → is_strip b ≡ true → is_side (take 480 (drop 492 b)) ≡ true
unfolding read
second_lent b h = second_side b h

pub first_names_lent : (b : List ℕ) → names_in (take 480 (drop 12 b)) ≡ (strip_of b).first
unfolding strip_of read
first_names_lent b = refl

pub second_names_lent : (b : List ℕ) → names_in (take 480 (drop 492 b)) ≡ (strip_of b).second
unfolding strip_of read
second_names_lent b = refl

pub side_one : (s : Strip) (d : ℕ) → d ≡ 1 → out_on s (side_of d) ≡ s.first
unfolding side_of
side_one s d h = rw (eq-eqb d 1 h)

pub side_two : (s : Strip) (d : ℕ) → (d ≡ 1 → ⊥) → out_on s (side_of d) ≡ s.second
unfolding side_of
side_two s d h = rw (ne_eqb d 1 h)

pub last_of : (b : List ℕ) → (strip_of b).last ≡ last_in b
unfolding strip_of
last_of b = refl

module _ (b name : List ℕ) (n d e : ℕ) where
  passed : {r : Bool} → r ≡ is_above (last_in b) n → r ≡ true → refusal_for (strip_of b) (event_of n d e name) ≡ refusal_on (out_on (strip_of b) (side_of d)) (what_of e name)
  unfolding refusal_for
  passed p t = rw (last_of b, ← p, t)

  pub number-first : {r : Bool} {v : ℕ} → r ≡ is_above (last_in b) n → r ≡ true → d ≡ 1 → v ≡ refusal_on (names_in (take 480 (drop 12 b))) (what_of e name) → v ≡ refusal_for (strip_of b) (event_of n d e name)
  number-first p t k q = q ∙ ap (λ (l : List (List ℕ)). refusal_on l (what_of e name)) (first_names_lent b ∙ sym (side_one (strip_of b) d k)) ∙ sym (passed p t)

  pub number_second : {r : Bool} {v : ℕ} → r ≡ is_above (last_in b) n → r ≡ true → (d ≡ 1 → ⊥) → v ≡ refusal_on (names_in (take 480 (drop 492 b))) (what_of e name) → v ≡ refusal_for (strip_of b) (event_of n d e name)
  number_second p t k q = q ∙ ap (λ (l : List (List ℕ)). refusal_on l (what_of e name)) (second_names_lent b ∙ sym (side_two (strip_of b) d k)) ∙ sym (passed p t)

  pub number_old : {r : Bool} → r ≡ is_above (last_in b) n → r ≡ false → 32 ≡ refusal_for (strip_of b) (event_of n d e name)
  unfolding refusal_for
  number_old p t = rw (last_of b, ← p, t)
