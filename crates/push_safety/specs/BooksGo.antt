-- How the books go on during a push: no number in use leaves it, buffers stay in the pool, and what the caller holds stays where it is.
use Rattle.std.specs.Prelude.{ℕ, zero, suc, ◌+◌, ◌*◌, ◌≤◌, ◌<◌, ◌^◌, ◌≡◌, refl, ◌≢◌, Bool, true, false, not, cond, List, length, ltb, eqb}
use Rattle.std.proofs.Common.{sym, ◌∙◌, ap, true≢false, arith, ltb-true, lt-ltb, le-ltb, ne_eqb}
use Rattle.std.proofs.Math.Bool.{and-eq-true_iff}
use Rattle.std.proofs.Math.Decide.{dec_lt, ℕ_discrete}
use Rattle.std.proofs.lemmas.Bool.{eqb-false, not-true}
use Rattle.search.specs.Cases.{both}
use Rattle.search.specs.First.{Lowest}
use Rattle.words.specs.Word.{word32}
use Rattle.words.specs.WordLaws.{bytes-with_word32}
use Rattle.words.specs.Frame.{Framed}
use Rattle.words.specs.FrameLaws.{framed_refl, framed_trans}
use Rattle.books.specs.declared.Entry.{Entry}
use Rattle.books.specs.Entry.{used_of, entry_of, is_free_at}
use Rattle.books.specs.EntryLaws.{entry-fits, free-says}
use Rattle.listings.specs.Listing.{taken, listed_one, over_list}
use Rattle.sound.specs.Change.{Roomy, Changed, length_as, with_length}
use Rattle.sound.specs.OpLaws.{changed_roomy, taken-changed, length-changed, listed-changed, used_taken, used_length, used_listed}
use Rattle.tallies.specs.declared.Tally.{Tally}
use Rattle.tallies.specs.Tally.{tally_place, with_tally}
use Rattle.tallies.specs.TallyLaws.{length-with_tally, entry-with_tally, used_with_tally}
use Rattle.pool.specs.Register.{is_held}
use Rattle.room.specs.Room.{entry_at}

-- books of n numbers for a pool of p bytes, with every buffer in use in range
pub record BooksRun (s : List ℕ) (n p : ℕ) : Type 0 where
  pub roomy : Roomy s n
  pub used : used_of s ≤ n
  pub inside : (k : ℕ) → k < used_of s → (entry_of s k).start + (entry_of s k).capacity.0 ≤ p
  pub filled : (k : ℕ) → k < used_of s → (entry_of s k).length.0 ≤ (entry_of s k).capacity.0

-- from the books s to later ones: in range still, and what is held stays held, from the same start on
pub record BooksGo (s t : List ℕ) (n p : ℕ) : Type 0 where
  pub run : BooksRun t n p
  pub len : length t ≡ length s
  pub used : used_of s ≤ used_of t
  pub held : (k : ℕ) → is_held s k ≡ true → is_held t k ≡ true
  pub start : (k : ℕ) → is_held s k ≡ true → (entry_of t k).start ≡ (entry_of s k).start

pub go_refl : {s : List ℕ} {n p : ℕ} → BooksRun s n p → BooksGo s s n p
go_refl r = record { run = r; len = refl; used = omega arith; held = λ k h. h; start = λ k h. refl }

pub go_trans : {s t u : List ℕ} {n p : ℕ} → BooksGo s t n p → BooksGo t u n p → BooksGo s u n p
go_trans a b =
    record {
      run = b.run;
      len = b.len ∙ a.len;
      used = omega (arith, a.used, b.used);
      held = λ k h. b.held k (a.held k h);
      start = λ k h. b.start k (a.held k h) ∙ a.start k h;
    }

-- held, as facts
pub held_says : (s : List ℕ) (k : ℕ) → is_held s k ≡ true → (k < used_of s) × ((entry_of s k).hold ≢ 0)
unfolding is_held
held_says s k e =
    let a = (and-eq-true_iff (ltb k (used_of s)) (not (eqb (entry_of s k).hold 0))).0 e in
    (ltb-true _ _ a.0, eqb-false _ _ (not-true _ a.1))

pub held_is : (s : List ℕ) (k : ℕ) → k < used_of s → (entry_of s k).hold ≢ 0 → is_held s k ≡ true
unfolding is_held
held_is s k l h = both (lt-ltb _ _ l) (ap not (ne_eqb _ _ h))

-- ---- one entry changed

-- every other number in use was in use; the new entry is in range; and it keeps hold and start where the old one was held
module _ {s t : List ℕ} {n p i : ℕ} {e : Entry} (r : BooksRun s n p) (c : Changed s t n i e) where
  pub changed_go : used_of s ≤ used_of t → used_of t ≤ n → ((k : ℕ) → k < used_of t → k ≢ i → k < used_of s) → e.start + e.capacity.0 ≤ p → e.length.0 ≤ e.capacity.0 → (is_held s i ≡ true → (e.hold ≡ (entry_of s i).hold) × (e.start ≡ (entry_of s i).start)) → BooksGo s t n p
  changed_go u m old inside filled same =
      record {
        run =
            record {
              roomy = changed_roomy r.roomy c;
              used = m;
              inside = λ k h. inside_at k h (ℕ_discrete k i);
              filled = λ k h. filled_at k h (ℕ_discrete k i);
            };
        len = c.framed.len;
        used = u;
        held = λ k h. held_at k h (ℕ_discrete k i);
        start = λ k h. start-at k h (ℕ_discrete k i);
      }
    where
      inside_at : (k : ℕ) → k < used_of t → Dec (k ≡ i) → (entry_of t k).start + (entry_of t k).capacity.0 ≤ p
      inside_at k h (yes d) = rw (d, c.same) inside
      inside_at k h (no d) = rw (c.other k d) (r.inside k (old k h d))

      filled_at : (k : ℕ) → k < used_of t → Dec (k ≡ i) → (entry_of t k).length.0 ≤ (entry_of t k).capacity.0
      filled_at k h (yes d) = rw (d, c.same) filled
      filled_at k h (no d) = rw (c.other k d) (r.filled k (old k h d))

      held_at : (k : ℕ) → is_held s k ≡ true → Dec (k ≡ i) → is_held t k ≡ true
      held_at k h (yes d) =
          let g : is_held s i ≡ true = rw d at h in
          let f = held_says s i g in
          rw d (held_is t i (omega (arith, f.0, u)) (λ z. f.1 (sym (same g).0 ∙ ap (λ (x : Entry). x.hold) (sym c.same) ∙ z)))
      held_at k h (no d) =
          let f = held_says s k h in
          held_is t k (omega (arith, f.0, u)) (λ z. f.1 (ap (λ (x : Entry). x.hold) (sym (c.other k d)) ∙ z))

      start-at : (k : ℕ) → is_held s k ≡ true → Dec (k ≡ i) → (entry_of t k).start ≡ (entry_of s k).start
      start-at k h (yes d) =
          let g : is_held s i ≡ true = rw d at h in
          rw d (ap (λ (x : Entry). x.start) c.same ∙ (same g).1)
      start-at k h (no d) = ap (λ (x : Entry). x.start) (c.other k d)

-- ---- the four changes

-- a block taken at the lowest free number, within the pool
free_held : (s : List ℕ) (i : ℕ) → is_free_at s i ≡ true → is_held s i ≡ true → ⊥
unfolding is_free_at
free_held s i f h =
    let a = held_says s i h in
    a.1 (free-says (entry_of s i) (rw (lt-ltb i (used_of s) a.0) at f)).0

free-next : (s : List ℕ) (i n : ℕ) → Lowest (is_free_at s) n i → i ≤ used_of s
unfolding is_free_at
free-next s i n l = go (dec_lt (used_of s) i)
  where
    go : Dec (used_of s < i) → i ≤ used_of s
    go (yes d) =
        let z : true ≡ false = rw (le-ltb (used_of s) (used_of s) (omega arith)) at (l.others (used_of s) d) in
        absurd (true≢false z)
    go (no d) = omega arith

taken_used : (u i : ℕ) → i ≤ u → (u ≤ cond (ltb i u) u (i + 1)) × ((k : ℕ) → k < cond (ltb i u) u (i + 1) → k ≢ i → k < u)
taken_used u i h = go (dec_lt i u)
  where
    go : Dec (i < u) → (u ≤ cond (ltb i u) u (i + 1)) × ((k : ℕ) → k < cond (ltb i u) u (i + 1) → k ≢ i → k < u)
    go (yes d) = rw (lt-ltb i u d) (omega arith, λ k l o. l)
    go (no d) = rw (le-ltb i u (omega arith)) (omega arith, λ k l o. omega arith)

cond_below : (u i n : ℕ) → u ≤ n → i < n → cond (ltb i u) u (i + 1) ≤ n
cond_below u i n h l = go (ltb i u)
  where
    go : (b : Bool) → cond b u (i + 1) ≤ n
    go true = h
    go false = omega arith

pub taken_at : {s : List ℕ} {n p : ℕ} (i start capacity : ℕ) → BooksRun s n p → i < n → start + capacity ≤ p → p < 2 ^ 32 → Changed s (taken s i (entry_at start capacity 0 0 1)) n i (entry_at start capacity 0 0 1)
taken_at i start capacity r l h f =
    taken-changed i r.roomy l (entry_at start capacity 0 0 1)
    (record { start_fits = omega arith; capacity_fits = omega arith; length-fits = omega arith; hold_fits = omega arith; listings-fits = omega arith })

pub taken_go : {s : List ℕ} {n p : ℕ} (i start capacity : ℕ) → BooksRun s n p → Lowest (is_free_at s) n i → start + capacity ≤ p → p < 2 ^ 32 → BooksGo s (taken s i (entry_at start capacity 0 0 1)) n p
taken_go {s} {n} {p} i start capacity r l h f =
    let u : used_of (taken s i (entry_at start capacity 0 0 1)) ≡ cond (ltb i (used_of s)) (used_of s) (i + 1) = used_taken i _ r.roomy l.below in
    let a = taken_used (used_of s) i (free-next s i n l) in
    changed_go r (taken_at i start capacity r l.below h f) (rw u a.0)
    (rw u (cond_below (used_of s) i n r.used l.below))
    (λ k g d. a.1 k (rw u at g) d)
    h (omega arith)
    (λ g. absurd (free_held s i l.accepted g))

-- it is then in use
pub taken_in : {s : List ℕ} {n p : ℕ} (i : ℕ) (e : Entry) → BooksRun s n p → i < n → i < used_of (taken s i e)
taken_in {s} i e r h = rw (used_taken i e r.roomy h) (go (dec_lt i (used_of s)))
  where
    go : Dec (i < used_of s) → i < cond (ltb i (used_of s)) (used_of s) (i + 1)
    go (yes d) = rw (lt-ltb i (used_of s) d) d
    go (no d) = rw (le-ltb i (used_of s) (omega arith)) (omega arith)

-- filled up to v
pub length_at : {s : List ℕ} {n p : ℕ} (i v : ℕ) → BooksRun s n p → i < used_of s → v ≤ (entry_of s i).capacity.0 → Changed s (with_length s i v) n i (length_as (entry_of s i) v)
length_at {s} i v r h l = length-changed i r.roomy (omega (arith, r.used)) v (omega (arith, (entry-fits s i r.roomy.bytes).capacity_fits))

pub length_go : {s : List ℕ} {n p : ℕ} (i v : ℕ) → BooksRun s n p → i < used_of s → v ≤ (entry_of s i).capacity.0 → BooksGo s (with_length s i v) n p
length_go {s} {n} {p} i v r h l =
    let u : used_of (with_length s i v) ≡ used_of s = used_length s i v in
    changed_go r (length_at i v r h l)
    (rw u (omega arith)) (rw u r.used) (λ k g d. rw u at g) (r.inside i h) l (λ g. (refl, refl))

-- one listed once more, and a list of them
pub listed_go : {s : List ℕ} {n p : ℕ} (i : ℕ) → BooksRun s n p → i < used_of s → BooksGo s (listed_one s i) n p
listed_go {s} {n} {p} i r h =
    let u : used_of (listed_one s i) ≡ used_of s = used_listed s i in
    changed_go r (listed-changed i r.roomy (omega (arith, r.used)))
    (rw u (omega arith)) (rw u r.used) (λ k g d. rw u at g) (r.inside i h) (r.filled i h) (λ g. (refl, refl))

pub over_go : {s : List ℕ} {n p : ℕ} (l : List ℕ) (count : ℕ) → BooksRun s n p → ((k : ℕ) → k < count → word32 l (4 * k) < used_of s) → BooksGo s (over_list listed_one s l count) n p × Framed 0 (4 + 20 * n) s (over_list listed_one s l count)
unfolding over_list
over_go {s} {n} l zero r h = (go_refl r, framed_refl 0 (4 + 20 * n) s)
over_go {s} {n} l (suc count) r h =
    let a = over_go l count r (λ k g. h k (omega arith)) in
    let b : word32 l (4 * count) < used_of (over_list listed_one s l count) = omega (arith, h count (omega arith), a.0.used) in (
      go_trans a.0 (listed_go (word32 l (4 * count)) a.0.run b),
      framed_trans a.1 (listed-changed (word32 l (4 * count)) a.0.run.roomy (omega (arith, a.0.run.used))).framed,
    )

-- a count of a slot
pub tally_go : {s : List ℕ} {p : ℕ} (t : Tally) (v : ℕ) → BooksRun s t.numbers p → v < 2 ^ 32 → BooksGo s (with_tally s t v) t.numbers p
unfolding with_tally
tally_go {s} t v r f =
    let u : used_of (with_tally s t v) ≡ used_of s = used_with_tally s t v in
    let e : (k : ℕ) → k < used_of s → entry_of (with_tally s t v) k ≡ entry_of s k = λ k h. entry-with_tally s t v k (omega (arith, r.used)) in
    record {
      run =
          record {
            roomy =
                record {
                  bytes = bytes-with_word32 s (tally_place t) v r.roomy.bytes f;
                  room = omega (arith, r.roomy.room, length-with_tally s t v);
                  few = r.roomy.few;
                };
            used = rw u r.used;
            inside = λ k h. let g : k < used_of s = rw u at h in rw (e k g) (r.inside k g);
            filled = λ k h. let g : k < used_of s = rw u at h in rw (e k g) (r.filled k g);
          };
      len = length-with_tally s t v;
      used = rw u (omega arith);
      held = λ k h.
          let a = held_says s k h in
          held_is (with_tally s t v) k (rw u a.0) (λ z. a.1 (ap (λ (x : Entry). x.hold) (sym (e k a.0)) ∙ z));
      start = λ k h. ap (λ (x : Entry). x.start) (e k (held_says s k h).0);
    }
