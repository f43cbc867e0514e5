-- The exits of the functions that take an event: each is the one of ReadExits or TakeExits, for a side and a thing that happens.
use Rattle.std.specs.Prelude.{ℕ, ◌+◌, ◌-◌, ◌*◌, ◌≤◌, ◌<◌, ◌≡◌, refl, Bool, true, false, List, [], ◌++◌, cond, eqb, ltb, take, drop}
use Rattle.std.proofs.Common.{sym, ◌∙◌, ap, arith}
use Rattle.std.specs.Prelude.{None, Some}
use lib.Pointwise.{pointwise}
use borrow.Rule.Slice.PartMut.{put_mid}
use Rattle.search.specs.Table.{same}
use Rattle.words.specs.Word.{word32}
use Rattle.outs.specs.Outs.{What, out, revive, Event, out_on, among, is_above, refusal_on, refusal_for, changed, accepted, is_name, in_range, side_of, what_of, event_of, given_number, given_took}
use Rattle.outs.specs.Coding.{name_in, side_code, last_code, code_of, names_in, last_in, strip_of, is_side, is_strip}
use Rattle.outs.specs.declared.Side as coded_side
use Rattle.outs.specs.declared.Side.TheVariants.{One, Two}
use Rattle.outs.specs.Seen.{seen_side, start_of, named}
use Rattle.outs.specs.TestLaws.{same_answer}
use Rattle.outs.specs.StripTests.{last_off, last_on}
use Rattle.outs.proofs.OutsLaws.{accepted_on}
use Rattle.outs.proofs.ReadExits.{side_out_already, side_goes_out, side_eighth, side_nobody, side_comes_back, first_lent, second_lent, first_names_lent, second_names_lent, last_of}
use Rattle.outs.proofs.TakeExits.{out_room, somebody, range_name, took-first, took_second, given-refused, leaves-refused, leaves-taken}

-- ---- the last accepted number

pub number_none : (b : List ℕ) {f : ℕ} → f ≡ word32 b 0 → f ≡ 0 → last_in b ≡ None
number_none b e z = last_off b (sym e ∙ z)

pub number_some : (b : List ℕ) {f lo hi : ℕ} → f ≡ word32 b 0 → (f ≡ 0 → ⊥) → lo ≡ word32 b 4 → hi ≡ word32 b 8 → last_in b ≡ Some (lo + hi * 4294967296)
number_some b e z p q = rw (p, q) (last_on b (λ w. z (e ∙ w)))

pub above_first : (b : List ℕ) (n : ℕ) → last_in b ≡ None → true ≡ is_above (last_in b) n
above_first b n e = rw e

pub above_last : (b : List ℕ) (n : ℕ) {k : ℕ} → last_in b ≡ Some k → ltb k n ≡ is_above (last_in b) n
above_last b n e = rw e

-- ---- a side

pub same_name : (side name : List ℕ) (i : ℕ) {m : List ℕ} {r : Bool} → r ≡ pointwise eqb name m → m ≡ name_in side i → r ≡ same name (name_in side i)
same_name side name i q e = same_answer name _ q ∙ ap (same name) e

module _ (side name : List ℕ) {n : ℕ} (h : is_side side ≡ true) (c : n ≡ word32 side 0) where
  pub out_already : {r : Bool} → n < 7 → r ≡ among name (names_in side) → r ≡ true → 35 ≡ refusal_on (names_in side) (out name)
  unfolding what_of
  out_already l q t = side_out_already side name 1 h c refl l q t

  pub goes : {r : Bool} → n < 7 → r ≡ among name (names_in side) → r ≡ false → 0 ≡ refusal_on (names_in side) (out name)
  unfolding what_of
  goes l q t = side_goes_out side name 1 h c refl l q t

  pub eighth : 7 ≤ n → 33 ≡ refusal_on (names_in side) (out name)
  unfolding what_of
  eighth l = side_eighth side name 1 h c refl l

module _ (side : List ℕ) {n : ℕ} (h : is_side side ≡ true) (c : n ≡ word32 side 0) where
  pub nobody : n ≡ 0 → 34 ≡ refusal_on (names_in side) revive
  unfolding what_of
  nobody l = side_nobody side [] 2 h c (λ e. omega arith) l

  pub comes : (n ≡ 0 → ⊥) → 0 ≡ refusal_on (names_in side) revive
  unfolding what_of
  comes l = side_comes_back side [] 2 h c (λ e. omega arith) l

pub room_for : (side name : List ℕ) → is_side side ≡ true → refusal_on (names_in side) (out name) ≡ 0 → word32 side 0 < 7
unfolding what_of
room_for side name h z = out_room side name 1 h z refl

pub somebody_there : (side : List ℕ) → is_side side ≡ true → refusal_on (names_in side) revive ≡ 0 → 1 ≤ word32 side 0
unfolding what_of
somebody_there side h z = somebody side [] 2 h z (λ e. omega arith)

-- ---- the strip

-- a side where it stands
took_there : (b : List ℕ) (d : coded_side.Side) (n : ℕ) (w : What) {u t : List ℕ} → is_strip b ≡ true → u ≡ side_code (changed (names_in (take (start_of d + 480 - start_of d) (drop (start_of d) b))) w) → t ≡ last_code (Some n) ++ drop 12 (put_mid (start_of d) (start_of d + 480 - start_of d) b u) → t ≡ code_of (accepted (strip_of b) (record { number = n; side = seen_side d; what = w }))
unfolding side_of what_of
took_there b One n (out name) h p q = took-first b name n 1 1 h refl p q
took_there b One n revive h p q = took-first b [] n 1 2 h refl p q
took_there b Two n (out name) h p q = took_second b name n 2 1 h (λ e. omega arith) p q
took_there b Two n revive h p q = took_second b [] n 2 2 h (λ e. omega arith) p q

-- the part that is lent for a side

module _ (b : List ℕ) (d : coded_side.Side) {f : ℕ} (at : f ≡ start_of d) where
  pub lent : is_strip b ≡ true → is_side (take (f + 480 - f) (drop f b)) ≡ true
  lent h = rw at (go d)
    where
      go : (d : coded_side.Side) → is_side (take (start_of d + 480 - start_of d) (drop (start_of d) b)) ≡ true
      go One = first_lent b h
      go Two = second_lent b h

  pub lent_names : names_in (take (f + 480 - f) (drop f b)) ≡ out_on (strip_of b) (seen_side d)
  lent_names = rw at (go d)
    where
      go : (d : coded_side.Side) → names_in (take (start_of d + 480 - start_of d) (drop (start_of d) b)) ≡ out_on (strip_of b) (seen_side d)
      go One = first_names_lent b
      go Two = second_names_lent b

  pub number_at : (n : ℕ) (w : What) {r : Bool} {v : ℕ} → r ≡ is_above (last_in b) n → r ≡ true → v ≡ refusal_on (names_in (take (f + 480 - f) (drop f b))) w → v ≡ refusal_for (strip_of b) (record { number = n; side = seen_side d; what = w })
  unfolding refusal_for
  number_at n w p t q = rw (last_of b, ← p, t, ← lent_names) q

  pub asked_at : (n : ℕ) (w : What) → refusal_for (strip_of b) (record { number = n; side = seen_side d; what = w }) ≡ 0 → refusal_on (names_in (take (f + 480 - f) (drop f b))) w ≡ 0
  asked_at n w z = rw lent_names (accepted_on (strip_of b) (record { number = n; side = seen_side d; what = w }) z)

  pub took_at : (n : ℕ) (w : What) {u t : List ℕ} → is_strip b ≡ true → u ≡ side_code (changed (names_in (take (f + 480 - f) (drop f b))) w) → t ≡ last_code (Some n) ++ drop 12 (put_mid f (f + 480 - f) b u) → t ≡ code_of (accepted (strip_of b) (record { number = n; side = seen_side d; what = w }))
  took_at n w h p q = took_there b d n w h (rw at at p) (rw at at q)

pub number_low : (b : List ℕ) (e : Event) {r : Bool} → r ≡ is_above (last_in b) e.number → r ≡ false → 32 ≡ refusal_for (strip_of b) e
unfolding refusal_for
number_low b e p t = rw (last_of b, ← p, t)

-- ---- a row's four values

-- what goes out has its name in range
named_out : (e : ℕ) (name : List ℕ) → is_name name ≡ true → named (what_of e name) ≡ true
unfolding what_of
named_out e name h = go (eqb e 1)
  where
    go : (t : Bool) → named (cond t (out name) revive) ≡ true
    go true = h
    go false = refl

module _ (b name : List ℕ) (n d e : ℕ) (v : Event) (r : in_range d e name ≡ true) (q : v ≡ event_of n d e name) where
  as_given : {k : ℕ} → k ≡ refusal_for (strip_of b) v → k ≡ refusal_for (strip_of b) (event_of n d e name)
  as_given p = p ∙ ap (refusal_for (strip_of b)) q

  pub event_named : named v.what ≡ true
  event_named = ap (λ (w : Event). named w.what) q ∙ named_out e name (range_name d e name (sym r) refl)

  pub refused_number : {k : ℕ} → k ≡ refusal_for (strip_of b) v → k ≡ given_number (strip_of b) n d e name
  refused_number p = given-refused (strip_of b) name n d e (sym r) refl (as_given p)

  pub refused_leaves : {k : ℕ} → is_strip b ≡ true → k ≡ refusal_for (strip_of b) v → (k ≡ 0 → ⊥) → b ≡ code_of (given_took (strip_of b) n d e name)
  refused_leaves h p z = leaves-refused b name n d e h (sym r) refl (as_given p) z

  pub taken_leaves : {t : List ℕ} → 0 ≡ refusal_for (strip_of b) v → t ≡ code_of (accepted (strip_of b) v) → t ≡ code_of (given_took (strip_of b) n d e name)
  taken_leaves p u = leaves-taken b name n d e (sym r) refl (as_given p) refl (u ∙ ap (λ (w : Event). code_of (accepted (strip_of b) w)) q)
