-- The ways out of choose and open_as, and what an answer says of the pool and the books.
use Rattle.std.specs.Prelude.{ℕ, ◌+◌, ◌*◌, ◌≤◌, ◌<◌, ◌^◌, Bool, ◌&&◌, List, length, eqb}
use Rattle.std.proofs.Math.Path.{◌≡◌, refl, ap}
use Rattle.std.proofs.Common.{sym, ◌∙◌, arith, eqb-true}
use Rattle.std.proofs.Math.Bool.{true, false, cond, and-eq-true_iff}
use Rattle.std.proofs.Math.Decide.{dec_lt}
use Rattle.search.specs.First.{Lowest}
use Rattle.counts.specs.declared.BufferNumber.{BufferNumber}
use Rattle.books.specs.declared.Entry.{Entry}
use Rattle.books.specs.Entry.{used_of, entry_of, is_free, is_free_at}
use Rattle.books.specs.EntryLaws.{free-says}
use Rattle.books.specs.Search.{lowest_free, lowest_gap}
use Rattle.books.specs.SearchLaws.{lowest_free_lem, free-below}
use Rattle.books.specs.GapLaws.{GapAt, start-says}
use Rattle.listings.specs.Listing.{no_entry, taken}
use Rattle.sound.specs.Sound.{Sound}
use Rattle.room.specs.declared.Room.{Room}
use Rattle.room.specs.Room.{or_refused, chosen, is_zero, if_zero, block_room, entry_at, taken_for, opened_as, opened, tried, Opens}
use Rattle.std.specs.Prelude.{Option, Some, None, Result, Ok, Err}

-- an entry of zeros is the zero entry
pub zero_says : (e : Entry) → is_zero e ≡ true → e ≡ no_entry
unfolding is_zero
zero_says e h =
    let a = (and-eq-true_iff (eqb e.start 0) _).0 h in
    let b = (and-eq-true_iff (eqb e.capacity.0 0) _).0 a.1 in
    let c = (and-eq-true_iff (eqb e.length.0 0) (is_free e)).0 b.1 in
    let f = free-says e c.1 in
    zeros e (eqb-true _ _ a.0) (eqb-true _ _ b.0) (eqb-true _ _ c.0) f.0 f.1
  where
    of : ℕ → ℕ → ℕ → ℕ → ℕ → Entry
    of a b c d f = record { start = a; capacity = record { 0 = b }; length = record { 0 = c }; hold = d; listings = f }

    zeros : (e : Entry) → e.start ≡ 0 → e.capacity.0 ≡ 0 → e.length.0 ≡ 0 → e.hold ≡ 0 → e.listings ≡ 0 → e ≡ no_entry
    zeros e p q r t u =
        let g : of e.start e.capacity.0 e.length.0 e.hold e.listings ≡ of 0 0 0 0 0 = cc in g

-- is_zero
pub zero_is : (e : Entry) {f : Bool} → f ≡ is_free e → (eqb e.start 0 && (eqb e.capacity.0 0 && (eqb e.length.0 0 && f))) ≡ is_zero e
unfolding is_zero
zero_is e p = rw p

-- the ways out of choose
module _ (s : List ℕ) (n pool capacity : ℕ) where
  pub no_number : {f : Option BufferNumber} → f ≡ lowest_free s n → f ≡ None → Err 11 ≡ chosen s n pool capacity
  unfolding chosen
  no_number p q = cc

  pub no_gap : {f : Option BufferNumber} {g : Option ℕ} {k : BufferNumber} → f ≡ lowest_free s n → f ≡ Some k → g ≡ lowest_gap s pool capacity → g ≡ None → Err 12 ≡ chosen s n pool capacity
  unfolding chosen
  no_gap p q a b = cc

  pub room_found : {f : Option BufferNumber} {g : Option ℕ} {k : BufferNumber} {at : ℕ} → f ≡ lowest_free s n → f ≡ Some k → g ≡ lowest_gap s pool capacity → g ≡ Some at → Ok (record { number = k; start = at }) ≡ chosen s n pool capacity
  unfolding chosen
  room_found p q a b = cc

  -- what room says: the number is the lowest free one, the start is the lowest gap
  pub record Found-room (r : Room) : Type 0 where
    pub number : Lowest (is_free_at s) n r.number.0
    pub gap : GapAt s pool capacity r.start

  split : (r : Room) (f : Option BufferNumber) (g : Option ℕ) → or_refused f g ≡ Ok r → (f ≡ Some r.number) × (g ≡ Some r.start)
  split r None g e = let z : ◌≡◌ {A = ℕ} 0 1 = cc in absurd (omega arith)
  split r (Some k) None e = let z : ◌≡◌ {A = ℕ} 0 1 = cc in absurd (omega arith)
  split r (Some k) (Some at) e =
      let q : ◌≡◌ {A = Room} (record { number = k; start = at }) r = cc in
      (ap (λ (x : Room). Some x.number) q, ap (λ (x : Room). Some x.start) q)

  pub room_says : (r : Room) → chosen s n pool capacity ≡ Ok r → Found-room r
  unfolding chosen
  room_says r e =
      let p = split r (lowest_free s n) (lowest_gap s pool capacity) e in
      record { number = lowest_free_lem s n r.number p.0; gap = start-says s capacity pool r.start p.1 }

  -- ---- the room for a block

  -- what its answer says: the room is the one that is chosen, and the entry there is zero
  pub record ZeroRoom (r : Room) : Type 0 where
    pub chooses : chosen s n pool capacity ≡ Ok r
    pub zero : entry_of s r.number.0 ≡ no_entry

  pub block_says : (r : Room) → block_room s n pool capacity ≡ Ok r → ZeroRoom r
  unfolding block_room
  block_says r e = go (chosen s n pool capacity) refl e
    where
      go : (c : Result Room ℕ) → chosen s n pool capacity ≡ c → if_zero s c ≡ Ok r → ZeroRoom r
      go (Err number) q x = let z : ◌≡◌ {A = ℕ} 0 1 = cc in absurd (omega arith)
      go (Ok o) q x = by (is_zero (entry_of s o.number.0)) refl x
        where
          by : (b : Bool) → is_zero (entry_of s o.number.0) ≡ b → cond {A = Result Room ℕ} b (Ok o) (Err 14) ≡ Ok r → ZeroRoom r
          by true z y = let p : o ≡ r = cc in record { chooses = q ∙ ap Ok p; zero = rw (← p) (zero_says (entry_of s o.number.0) z) }
          by false z y = let z : ◌≡◌ {A = ℕ} 0 1 = cc in absurd (omega arith)

  -- a room that is chosen, where the entry is zero
  pub block_zero : (r : Room) → chosen s n pool capacity ≡ Ok r → entry_of s r.number.0 ≡ no_entry → block_room s n pool capacity ≡ Ok r
  unfolding block_room is_zero is_free
  block_zero r e z = rw (e, z)

  -- and where none is
  pub block_none : (number : ℕ) → chosen s n pool capacity ≡ Err number → block_room s n pool capacity ≡ Err number
  unfolding block_room
  block_none number e = rw e

  -- in sound books the entry of every free number is zero
  pub sound_block : {p : ℕ} {count : ℕ → ℕ} → Sound s n p count → block_room s n pool capacity ≡ chosen s n pool capacity
  sound_block w = go (chosen s n pool capacity) refl
    where
      zero : (k : ℕ) → k < n → is_free_at s k ≡ true → Dec (k < used_of s) → entry_of s k ≡ no_entry
      zero k h f (yes d) = w.zero k h (sym (free-below s k d) ∙ f)
      zero k h f (no d) = w.beyond k h (omega arith)

      go : (c : Result Room ℕ) → chosen s n pool capacity ≡ c → block_room s n pool capacity ≡ chosen s n pool capacity
      go (Err number) e = block_none number e ∙ sym e
      go (Ok r) e =
          let f = (room_says r e).number in
          block_zero r e (zero r.number.0 f.below f.accepted (dec_lt r.number.0 (used_of s))) ∙ sym e

  -- its refusals: those of choosing, and 14
  pub block_refusal : {P : ℕ → Type 0} (number : ℕ) → block_room s n pool capacity ≡ Err number → ((m : ℕ) → chosen s n pool capacity ≡ Err m → P m) → P 14 → P number
  unfolding block_room
  block_refusal {P} number e f z = go (chosen s n pool capacity) refl e
    where
      go : (c : Result Room ℕ) → chosen s n pool capacity ≡ c → if_zero s c ≡ Err number → P number
      go (Err m) q x = let p : m ≡ number = cc in rw (← p) (f m q)
      go (Ok o) q x = by (is_zero (entry_of s o.number.0)) x
        where
          by : (b : Bool) → cond {A = Result Room ℕ} b (Ok o) (Err 14) ≡ Err number → P number
          by true y = let z : ◌≡◌ {A = ℕ} 0 1 = cc in absurd (omega arith)
          by false y = let p : 14 ≡ number = cc in rw (← p) z

  -- for the code: the number has an entry, the capacity is a word
  pub number_room : {c : Result Room ℕ} {r : Room} → c ≡ chosen s n pool capacity → c ≡ Ok r → 4 + 20 * n ≤ length s → 24 + 20 * r.number.0 ≤ length s
  number_room {c} {r} p q h = omega (arith, (room_says r (sym p ∙ q)).number.below)

  pub number_few : {c : Result Room ℕ} {r : Room} → c ≡ chosen s n pool capacity → c ≡ Ok r → n ≤ 65536 → r.number.0 < 65536
  number_few {c} {r} p q h = omega (arith, (room_says r (sym p ∙ q)).number.below)

  pub capacity_fits : {c : Result Room ℕ} {r : Room} → c ≡ chosen s n pool capacity → c ≡ Ok r → pool < 2 ^ 32 → capacity < 2 ^ 32
  capacity_fits {c} {r} p q h = omega (arith, (room_says r (sym p ∙ q)).gap.fits)

  -- the ways out of open_as
  module _ (hold listings : ℕ) {c : Result Room ℕ} (p : c ≡ chosen s n pool capacity) where
    pub opens_not : {number : ℕ} → c ≡ Err number → Opens (opened_as s n pool capacity hold listings) s c
    unfolding opened_as block_room
    opens_not q = record { answer_is = cc; books_are = cc }

    module _ {r : Room} (q : c ≡ Ok r) {e : Entry} (d : e ≡ entry_of s r.number.0) {z : Bool} (h : z ≡ is_zero e) where
      pub opens_at : {t : List ℕ} → z ≡ true → t ≡ taken s r.number.0 (entry_at r.start capacity 0 hold listings) → Opens (opened_as s n pool capacity hold listings) t (Ok r)
      unfolding opened_as block_room
      opens_at y w = rw (← p, q, ← d, ← h, y) (record { answer_is = refl; books_are = w })

      pub opens_dirty : z ≡ false → Opens (opened_as s n pool capacity hold listings) s (Err 14)
      unfolding opened_as block_room
      opens_dirty y = rw (← p, q, ← d, ← h, y) (record { answer_is = refl; books_are = refl })

  -- open_block and try_block
  pub opened_is : {t : List ℕ} {c : Result Room ℕ} → Opens (opened_as s n pool capacity 0 1) t c → Opens (opened s n pool capacity) t c
  unfolding opened
  opened_is h = h

  pub tried_is : {t : List ℕ} {c : Result Room ℕ} → Opens (opened_as s n pool capacity 2 0) t c → Opens (tried s n pool capacity) t c
  unfolding tried
  tried_is h = h
