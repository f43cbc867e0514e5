-- The lowest gap: what a sweep does, what is answered, and that the answer is clear and the lowest.
use Prim.Native.Nat.{ℕ, zero, suc, ◌+◌, ◌*◌, ◌-◌, ◌≤◌, ◌<◌, ◌^◌}
use Rattle.std.proofs.Math.Path.{◌≡◌, refl, sym, ap}
use Rattle.std.proofs.Common.{◌∙◌, add-one}
use Rattle.std.specs.Prelude.{Bool, ◌&&◌, List, length, ltb}
use Rattle.std.proofs.Math.Bool.{true, false, cond, not, true≢false}
use Rattle.std.specs.Prelude.{Option, None, Some}
use native.Mathlib.Omega.{arith}
use Rattle.std.proofs.Math.Decide.{dec_lt}
use borrow.Author.Tests.{lt-ltb, le-ltb, not-true}
use Rattle.search.specs.Cases.{by_cond, false_of}
use Rattle.search.specs.First.{first, Lowest, Passed}
use Rattle.search.specs.FirstLaws.{passed_none, passed_at, passed_all, at-says, at_is, nothing-says, nothing_is}
use Rattle.search.specs.Every.{every, every-says, every_is}
use Rattle.words.specs.Word.{word32}
use Rattle.words.specs.WordLaws.{Bytes}
use Rattle.books.specs.declared.Entry.{Entry}
use Rattle.books.specs.Entry.{used_of, entry_of, is_free, share_byte, occupies}
use Rattle.books.specs.EntryLaws.{EntryWords, entry-fits, Shares, shares_says, Occupies, occupies-says, occupies_is}
use Rattle.books.specs.Search.{as_gap, clear_at, lowest_gap, past_entry, swept, swept_of}

-- the ways out of past
pub past_free : (e : Entry) (at size : ℕ) {r : Bool} → r ≡ is_free e → r ≡ true → at ≡ past_entry e at size
unfolding past_entry occupies
past_free e at size p h = rw (← p, h)

pub past_end : (e : Entry) (at size : ℕ) {r : Bool} {a b : ℕ} → r ≡ is_free e → r ≡ false → a ≡ Prim.Native.Nat.max e.start at → b ≡ Prim.Native.Nat.min (e.start + e.capacity.0) (at + size) → a < b → e.start + e.capacity.0 ≡ past_entry e at size
unfolding past_entry occupies share_byte
past_end e at size {r} {a} {b} p h q t l = rw (← p, h, ← q, ← t, lt-ltb a b l)

pub past_apart : (e : Entry) (at size : ℕ) {r : Bool} {a b : ℕ} → r ≡ is_free e → r ≡ false → a ≡ Prim.Native.Nat.max e.start at → b ≡ Prim.Native.Nat.min (e.start + e.capacity.0) (at + size) → b ≤ a → at ≡ past_entry e at size
unfolding past_entry occupies share_byte
past_apart e at size {r} {a} {b} p h q t l = rw (← p, h, ← q, ← t, le-ltb a b l)

-- a sweep, a buffer at a time
pub swept_none : (s : List ℕ) (size at : ℕ) → at ≡ swept s size at 0
unfolding swept
swept_none s size at = refl

pub swept-more : (s : List ℕ) (size at i : ℕ) {e : Entry} {x y : ℕ} → x ≡ swept s size at i → e ≡ entry_of s i → y ≡ past_entry e x size → y ≡ swept s size at (i + 1)
unfolding swept
swept-more s size at i p q r = rw add-one (cc)

pub swept_all : (s : List ℕ) (size at i : ℕ) {u x : ℕ} → x ≡ swept s size at i → u ≡ word32 s 0 → i ≤ u → u ≤ i → x ≡ swept_of s size at
unfolding used_of
swept_all s size at i p q a b = let e : i ≡ word32 s 0 = omega arith in rw (← e) p

-- the end of a buffer is below 2 ^ 33
pub past_bound : (e : Entry) (at size : ℕ) {y : ℕ} → y ≡ past_entry e at size → e.start < 2 ^ 32 → e.capacity.0 < 2 ^ 32 → at < 2 ^ 33 → y < 2 ^ 33
unfolding past_entry
past_bound e at size p a b h = rw p (by_cond (λ (k : ℕ). k < 2 ^ 33) (occupies e at size) (λ q. omega arith) (λ q. h))

module _ (s : List ℕ) (size : ℕ) where
  step_grows : (e : Entry) (at : ℕ) → at ≤ past_entry e at size
  unfolding past_entry
  step_grows e at =
      by_cond (λ (k : ℕ). at ≤ k) (occupies e at size)
      (λ q. let m = occupies-says e at size q in omega (arith, m.shares.below))
      (λ q. omega arith)

  pub swept_grows : (at i : ℕ) → at ≤ swept s size at i
  unfolding swept
  swept_grows at zero = omega arith
  swept_grows at (suc i) = omega (arith, swept_grows at i, step_grows (entry_of s i) (swept s size at i))

  -- a start that a buffer in use occupies is not clear
  blocked : (u k : ℕ) → k < used_of s → Occupies (entry_of s k) u size → clear_at s size u ≡ false
  unfolding clear_at
  blocked u k l m =
      sym (false_of _ (λ t.
      true≢false (sym (occupies_is (entry_of s k) u size m) ∙ not-true (occupies (entry_of s k) u size) (every-says (λ i. not (occupies (entry_of s i) u size)) (used_of s) t k l))))

  -- every start that the first i buffers move past is occupied by one of them
  swept_blocked : (at i : ℕ) → i ≤ used_of s → (u : ℕ) → at ≤ u → u < swept s size at i → clear_at s size u ≡ false
  unfolding swept past_entry
  swept_blocked at zero l u a b = absurd (omega arith)
  swept_blocked at (suc i) l u a b = go (swept_blocked at i (omega arith) u a) (occupies (entry_of s i) (swept s size at i) size) refl b
    where
      x : ℕ
      x = swept s size at i

      e : Entry
      e = entry_of s i

      go : (u < swept s size at i → clear_at s size u ≡ false) → (t : Bool) → occupies e x size ≡ t → u < cond t (e.start + e.capacity.0) x → clear_at s size u ≡ false
      go r false q h = r h
      go r true q h = here (dec_lt u x)
        where
          m : Occupies e x size
          m = occupies-says e x size q

          here : Dec (u < x) → clear_at s size u ≡ false
          here (yes d) = r d
          here (no d) =
              blocked u i (omega arith)
              (record {
                live = m.live;
                shares =
                    record {
                      some = m.shares.some;
                      other = m.shares.other;
                      below = h;
                      above = omega (arith, m.shares.above);
                    };
              })

  -- a sweep that moves nothing met nothing
  swept_still : (at i : ℕ) → swept s size at i ≡ at → (k : ℕ) → k < i → occupies (entry_of s k) at size ≡ false
  unfolding swept past_entry
  swept_still at zero q k h = absurd (omega arith)
  swept_still at (suc i) q k h = go (swept_still at i) (occupies (entry_of s i) (swept s size at i) size) refl q (dec_lt k i)
    where
      go : (swept s size at i ≡ at → (k : ℕ) → k < i → occupies (entry_of s k) at size ≡ false) → (t : Bool) → occupies (entry_of s i) (swept s size at i) size ≡ t → cond t ((entry_of s i).start + (entry_of s i).capacity.0) (swept s size at i) ≡ at → Dec (k < i) → occupies (entry_of s k) at size ≡ false
      go r true t e d =
          let m = occupies-says (entry_of s i) (swept s size at i) size t in
          absurd (omega (arith, m.shares.below, swept_grows at i))
      go r false t e (yes d) = r e k d
      go r false t e (no d) =
          let z : k ≡ i = omega arith in
          let e' : swept s size at i ≡ at = e in
          rw z (rw e' at t)

  pub still_clear : (at : ℕ) → swept_of s size at ≡ at → clear_at s size at ≡ true
  unfolding clear_at
  still_clear at q = every_is (λ i. not (occupies (entry_of s i) at size)) (used_of s) (λ i h. rw (swept_still at (used_of s) q i h))

  -- the ways out of lowest_gap, and its turn
  pub gap_none : (pool : ℕ) → pool < size → None ≡ lowest_gap s pool size
  unfolding lowest_gap
  gap_none pool h = ap as_gap (passed_all (pool + 1 - size) (passed_none (clear_at s size)) (omega arith))

  pub gap_past : (pool at : ℕ) → Passed (clear_at s size) at → size ≤ pool → pool - size < at → None ≡ lowest_gap s pool size
  unfolding lowest_gap
  gap_past pool at o l h = ap as_gap (passed_all (pool + 1 - size) o (omega arith))

  pub gap_here : (pool at : ℕ) {next : ℕ} → Passed (clear_at s size) at → size ≤ pool → at ≤ pool - size → next ≡ swept_of s size at → next ≡ at → Some at ≡ lowest_gap s pool size
  unfolding lowest_gap
  gap_here pool at {next} o l h p q = ap as_gap (passed_at (pool + 1 - size) o (omega arith) (still_clear at (sym p ∙ q)))

  pub gap_turn : (at : ℕ) {next : ℕ} → Passed (clear_at s size) at → next ≡ swept_of s size at → Passed (clear_at s size) next
  gap_turn at {next} o p = record { others = λ u h. go u h (dec_lt u at) }
    where
      go : (u : ℕ) → u < next → Dec (u < at) → clear_at s size u ≡ false
      go u h (yes d) = o.others u d
      go u h (no d) = swept_blocked at (used_of s) (omega arith) u (omega arith) (omega arith)

  pub gap_less : (pool at : ℕ) {next : ℕ} → next ≡ swept_of s size at → (next ≡ at → ⊥) → at ≤ pool - size → pool + 1 - next < pool + 1 - at
  gap_less pool at p n h = omega (arith, swept_grows at (used_of s))

-- `t` is a gap: within the pool, no buffer in use occupies a byte of it, and every lower start is in some buffer's way
pub record GapAt (s : List ℕ) (pool size t : ℕ) : Type 0 where
  pub fits : t + size ≤ pool
  pub clear : (k : ℕ) → k < used_of s → Occupies (entry_of s k) t size → ⊥
  pub lowest : (u : ℕ) → u < t → clear_at s size u ≡ false

module _ (s : List ℕ) (size : ℕ) where
  clear_says : (u : ℕ) → clear_at s size u ≡ true → (k : ℕ) → k < used_of s → Occupies (entry_of s k) u size → ⊥
  clear_says u h k l m = true≢false (sym h ∙ blocked s size u k l m)

  -- what is answered is a gap, and where there is one it is answered
  pub start-says : (pool t : ℕ) → lowest_gap s pool size ≡ Some t → GapAt s pool size t
  unfolding lowest_gap
  start-says pool t e = go (first (clear_at s size) (pool + 1 - size)) refl e
    where
      go : (o : Option ℕ) → first (clear_at s size) (pool + 1 - size) ≡ o → as_gap o ≡ Some t → GapAt s pool size t
      go None q z = let w : ◌≡◌ {A = ℕ} 0 1 = cc in absurd (omega arith)
      go (Some i) q z =
          let t-is : i ≡ t = cc in
          let l : Lowest (clear_at s size) (pool + 1 - size) i = at-says (clear_at s size) (pool + 1 - size) i q in
          rw (← t-is) (record { fits = omega (arith, l.below); clear = clear_says i l.accepted; lowest = l.others })

  -- Nothing is answered exactly where every start within the pool is in some buffer's way
  pub nothing_says_blocked : (pool : ℕ) → lowest_gap s pool size ≡ None → (u : ℕ) → u + size ≤ pool → clear_at s size u ≡ false
  unfolding lowest_gap
  nothing_says_blocked pool e u h = go (first (clear_at s size) (pool + 1 - size)) refl e
    where
      go : (o : Option ℕ) → first (clear_at s size) (pool + 1 - size) ≡ o → as_gap o ≡ None → clear_at s size u ≡ false
      go None q z = nothing-says (clear_at s size) (pool + 1 - size) q u (omega arith)
      go (Some i) q z = let w : ◌≡◌ {A = ℕ} 0 1 = cc in absurd (omega arith)

  pub blocked_is_nothing : (pool : ℕ) → ((u : ℕ) → u + size ≤ pool → clear_at s size u ≡ false) → lowest_gap s pool size ≡ None
  unfolding lowest_gap
  blocked_is_nothing pool h = ap as_gap (nothing_is (clear_at s size) (pool + 1 - size) (λ u l. h u (omega arith)))

-- 01: "Capacity 0 starts at 0 and overlaps nothing."
pub empty_starts_at_0 : (s : List ℕ) (pool : ℕ) → lowest_gap s pool 0 ≡ Some 0
unfolding lowest_gap clear_at
empty_starts_at_0 s pool =
    ap as_gap
    (at_is (clear_at s 0) (pool + 1 - 0) 0
    (record {
      below = omega arith;
      accepted =
          every_is (λ i. not (occupies (entry_of s i) 0 0)) (used_of s)
          (λ i h. rw (sym (false_of (occupies (entry_of s i) 0 0) (λ t. let m = occupies-says (entry_of s i) 0 0 t in omega (arith, m.shares.other)))));
      others = λ u h. absurd (omega arith);
    }))
