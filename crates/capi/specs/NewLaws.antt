-- Set-up on the C layer: what it tests, and a law for each exit.
use Rattle.std.specs.Prelude.{ℕ, zero, suc, ◌+◌, ◌*◌, ◌/◌, ◌%◌, ◌≤◌, ◌<◌, ◌≡◌, Bool, true, false, ◌&&◌, get_or, eqb}
use Rattle.std.proofs.Math.Path.{refl, sym, ap}
use Rattle.std.proofs.Common.{◌∙◌, arith, Fits}
use Rattle.std.proofs.Math.Bool.{and-eq-true_iff, true≢false}
use mathlib.Core.List.{List, [], ◌∷◌}
use Rattle.std.proofs.Math.Decide.{ℕ_discrete}
use Rattle.std.proofs.Math.ListN.{length}
use Rattle.std.proofs.Math.Dec.{leb}
use Rattle.std.specs.Int.{w32}
use borrow.Author.Tests.{eq-eqb, ne_eqb, le-leb, eqb-true, leb-true}
use Rattle.words.specs.Word.{word32}
use Rattle.state.specs.World.{world}
use Rattle.rules.specs.Ranges.{in_bounds, fits_set_up}
use Rattle.rules.specs.Calls.{Wanted, new_state, set_up_call}
use Rattle.rules.proofs.CallLaws.{set_up_done, set_up_not}
use Rattle.push_safety.specs.TestedLaws.{bounds_say}
use Rattle.rules.specs.declared.Step.{Step}
use Rattle.set_up.specs.declared.Wanted.{Wanted as Asking}
use Rattle.set_up.specs.SetUp.{padded, wanted_of, SetsUp}
use Rattle.codes.specs.Code.{state_bytes}
use Rattle.crossing.specs.Cross.{kept_as, KeepsState, kinds_to, words_from}
use Rattle.crossing.specs.CrossLaws.{kinds-at}
use Rattle.capi.specs.Api.{memory, said, number, given, coded, asked_for, askable, created}

-- ---- is_askable

module _ (state kinds pool : ℕ) where
  pub asks_all : (eqb state state_bytes && (leb kinds 64 && (eqb (kinds % 4) 0 && leb pool 4294967295))) ≡ askable state kinds pool
  unfolding askable
  asks_all = refl

  ask_pool : state ≡ state_bytes → kinds ≤ 64 → kinds % 4 ≡ 0 → leb pool 4294967295 ≡ askable state kinds pool
  unfolding askable
  ask_pool p q h = rw (eq-eqb state state_bytes p, le-leb kinds 64 q, eq-eqb (kinds % 4) 0 h)

  -- what it says
  pub record Askable : Type 0 where
    pub state_is : state ≡ state_bytes
    pub kinds_few : kinds ≤ 64
    pub whole_words : kinds % 4 ≡ 0
    pub pool_small : pool ≤ 4294967295

  pub asks : {x : Bool} → x ≡ askable state kinds pool → x ≡ true → Askable
  unfolding askable
  asks p q =
      let a = (and-eq-true_iff (eqb state state_bytes) (leb kinds 64 && (eqb (kinds % 4) 0 && leb pool 4294967295))).0 (sym p ∙ q) in
      let b = (and-eq-true_iff (leb kinds 64) (eqb (kinds % 4) 0 && leb pool 4294967295)).0 a.1 in
      let c = (and-eq-true_iff (eqb (kinds % 4) 0) (leb pool 4294967295)).0 b.1 in
      record {
        state_is = eqb-true state state_bytes a.0;
        kinds_few = leb-true kinds 64 b.0;
        whole_words = eqb-true (kinds % 4) 0 c.0;
        pool_small = leb-true pool 4294967295 c.1;
      }

  pub asks_bytes : {x : Bool} → x ≡ askable state kinds pool → x ≡ true → state ≡ state_bytes
  asks_bytes p q = (asks p q).state_is

  pub asks_few : {x : Bool} → x ≡ askable state kinds pool → x ≡ true → kinds ≤ 64
  asks_few p q = (asks p q).kinds_few

  pub asks_count : {x : Bool} → x ≡ askable state kinds pool → x ≡ true → Fits w32 (kinds / 4)
  asks_count p q = record { fits = omega (arith, (asks p q).kinds_few) }

  pub asks_pool : {x : Bool} → x ≡ askable state kinds pool → x ≡ true → Fits w32 pool
  asks_pool p q = record { fits = omega (arith, (asks p q).pool_small) }

-- ---- the kinds

at_first : (b : List ℕ) (at x : ℕ) → x ≡ word32 b (at + 4 * 0) → x ≡ word32 b at
at_first b at x e = let q : at + 4 * 0 ≡ at = omega arith in rw q at e

at_next : (b : List ℕ) (at i : ℕ) {x : ℕ} → x ≡ word32 b (at + 4 * suc i) → x ≡ word32 b (at + 4 + 4 * i)
at_next b at i e = let q : at + 4 * suc i ≡ at + 4 + 4 * i = omega arith in rw q at e

list_two : {x y : ℕ} {l k : List ℕ} → x ≡ y → l ≡ k → x ∷ l ≡ y ∷ k
list_two p q = rw (p, q)

words_are : (b : List ℕ) (n at : ℕ) (l : List ℕ) → ((i : ℕ) → i < n → get_or l i 0 ≡ word32 b (at + 4 * i)) → padded n l ≡ words_from b at n
unfolding padded words_from
words_are b zero at l h = refl
words_are b (suc n) at [] h =
    list_two (at_first b at 0 (h 0 (omega arith))) (words_are b n (at + 4) [] (λ i k. at_next b at i (h (suc i) (omega arith))))
words_are b (suc n) at (x ∷ l) h =
    list_two (at_first b at x (h 0 (omega arith))) (words_are b n (at + 4) l (λ i k. at_next b at i (h (suc i) (omega arith))))

kinds-same : (b : List ℕ) (n : ℕ) → n ≤ 16 → padded n (kinds_to b n) ≡ words_from b 0 n
kinds-same b n h =
    words_are b n 0 (kinds_to b n) (λ i k. let q : 4 * i ≡ 0 + 4 * i = omega arith in kinds-at b n i h k ∙ ap (word32 b) q)

length_words : (b : List ℕ) (at n : ℕ) → length (words_from b at n) ≡ n
unfolding words_from
length_words b at zero = refl
length_words b at (suc n) = ap suc (length_words b (at + 4) n)

-- ---- what set-up leaves

set_up_same : (a : Wanted) (slots pool books : List ℕ) → ((set_up_call a slots pool books).world.slots ≡ slots) × ((set_up_call a slots pool books).world.pool ≡ pool)
set_up_same a slots pool books = go (fits_set_up (world (new_state a) slots pool books)) refl
  where
    go : (x : Bool) → fits_set_up (world (new_state a) slots pool books) ≡ x → ((set_up_call a slots pool books).world.slots ≡ slots) × ((set_up_call a slots pool books).world.pool ≡ pool)
    go true p = (ap (λ y. y.world.slots) (set_up_done a slots pool books p), ap (λ y. y.world.pool) (set_up_done a slots pool books p))
    go false p = (ap (λ y. y.world.slots) (set_up_not a slots pool books p), ap (λ y. y.world.pool) (set_up_not a slots pool books p))

-- more kinds than 16, or a longer pool than 01's, fit no set-up
fits_not : (a : Wanted) (slots pool books : List ℕ) → (length a.kinds ≤ 16 → a.pool ≤ 4294967295 → ⊥) → fits_set_up (world (new_state a) slots pool books) ≡ false
unfolding fits_set_up new_state
fits_not a slots pool books h = go (fits_set_up (world (new_state a) slots pool books)) refl
  where
    go : (x : Bool) → fits_set_up (world (new_state a) slots pool books) ≡ x → fits_set_up (world (new_state a) slots pool books) ≡ false
    go false p = p
    go true p = let y = bounds_say (new_state a) ((and-eq-true_iff (in_bounds (new_state a)) _).0 p).0 in absurd (h y.columns y.pool)

module _ (b slots pool books kinds : List ℕ) (target rows queue lists numbers : ℕ) where
  abbrev a : Wanted
  a = asked_for target rows queue lists numbers kinds (length pool)

  made : length b ≡ state_bytes → length kinds % 4 ≡ 0 → coded number b (given (set_up_call a slots pool books)) ≡ created a kinds (memory b slots pool books)
  unfolding created
  made p q = rw (eq-eqb (length b) state_bytes p, eq-eqb (length kinds % 4) 0 q)

  refused_by_lem : fits_set_up (world (new_state a) slots pool books) ≡ false → said 1 (memory b slots pool books) ≡ coded number b (given (set_up_call a slots pool books))
  unfolding coded
  refused_by_lem p = rw (set_up_not a slots pool books p)

  module _ {x : Bool} (e : x ≡ askable (length b) (length kinds) (length pool)) where
    pub new-refused : x ≡ false → said 1 (memory b slots pool books) ≡ created (asked_for target rows queue lists numbers kinds (length pool)) kinds (memory b slots pool books)
    unfolding created
    new-refused f = go (ℕ_discrete (length b) state_bytes) (ℕ_discrete (length kinds % 4) 0)
      where
        out : length b ≡ state_bytes → length kinds % 4 ≡ 0 → length (words_from kinds 0 (length kinds / 4)) ≤ 16 → length pool ≤ 4294967295 → ⊥
        out p q l m =
            true≢false
            (ap (λ (y : Bool). y) (sym (le-leb (length pool) 4294967295 m))
            ∙ ask_pool (length b) (length kinds) (length pool) p (omega (arith, length_words kinds 0 (length kinds / 4))) q
            ∙ sym e ∙ f)

        go : Dec (length b ≡ state_bytes) → Dec (length kinds % 4 ≡ 0) → said 1 (memory b slots pool books) ≡ created a kinds (memory b slots pool books)
        go (no p) d = rw (ne_eqb (length b) state_bytes p)
        go (yes p) (no q) = rw (eq-eqb (length b) state_bytes p, ne_eqb (length kinds % 4) 0 q)
        go (yes p) (yes q) = refused_by_lem (fits_not a slots pool books (out p q)) ∙ made p q

    module _ (t : x ≡ true) {k : List ℕ} (ks : k ≡ kinds_to kinds (length kinds / 4)) where
      -- what the code asks set-up for
      abbrev asking : Asking
      asking =
          record {
            target = record { 0 = target };
            rows = record { 0 = rows };
            queue = queue;
            columns = length kinds / 4;
            kinds = k;
            lists = lists;
            numbers = numbers;
            pool = record { 0 = length pool };
          }

      wanted_is : wanted_of asking ≡ a
      unfolding wanted_of
      wanted_is =
          let y : length kinds ≤ 64 = asks_few (length b) (length kinds) (length pool) e t in
          rw (ks, kinds-same kinds (length kinds / 4) (omega arith))

      pub new-said : {q : Step} {b' books' : List ℕ} {r : ℕ} → SetsUp (set_up_call (wanted_of asking) slots pool books) books' q → KeepsState q.number q.state b b' r → said r (memory b' slots pool books') ≡ created a kinds (memory b slots pool books)
      unfolding coded
      new-said {q} {b'} {books'} {r} s h =
          let y = asks (length b) (length kinds) (length pool) e t in
          let z : SetsUp (set_up_call a slots pool books) books' q = rw wanted_is at s in
          let w = set_up_same a slots pool books in
          rw (h.answer_is, h.bytes_are, z.number_is, z.state_is, z.books_are)
          (ap (λ (u : List ℕ). said (set_up_call a slots pool books).number (memory (kept_as (set_up_call a slots pool books).number (set_up_call a slots pool books).world.state b) u pool (set_up_call a slots pool books).world.books)) (sym w.0)
          ∙ ap (λ (u : List ℕ). said (set_up_call a slots pool books).number (memory (kept_as (set_up_call a slots pool books).number (set_up_call a slots pool books).world.state b) (set_up_call a slots pool books).world.slots u (set_up_call a slots pool books).world.books)) (sym w.1)
          ∙ made y.state_is y.whole_words)
