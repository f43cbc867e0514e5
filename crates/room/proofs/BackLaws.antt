-- A trial puts every byte of the books back.
use Rattle.std.specs.Prelude.{ℕ, zero, suc, ◌+◌, ◌*◌, ◌≤◌, ◌<◌, ◌≡◌, refl, Bool, true, false, cond, List, length, ltb}
use Rattle.std.proofs.Common.{sym, ◌∙◌, ap, true≢false, arith, ltb-true, ltb-false, eq-eqb, ne_eqb}
use Rattle.std.proofs.Math.Decide.{dec_lt, ℕ_discrete}
use Rattle.search.specs.First.{Lowest}
use Rattle.search.specs.Cases.{by_cond}
use Rattle.words.specs.Word.{word32}
use Rattle.words.specs.FrameLaws.{framed_refl, framed_trans}
use Rattle.books.specs.declared.Entry.{Entry}
use Rattle.books.specs.Entry.{used_of, entry_of, with_entry, is_free_at}
use Rattle.books.specs.EntryLaws.{EntryWords}
use Rattle.books.specs.SearchLaws.{free_beyond}
use Rattle.listings.specs.Listing.{no_entry, taken, with_used}
use Rattle.listings.specs.ListingLaws.{used_with_used}
use Rattle.sound.specs.Change.{Roomy, Changed}
use Rattle.sound.specs.OpLaws.{changed-none, used_lt, used_entry, used_changed, no_fits, entry-changed, taken-changed, used_taken}
use Rattle.room.specs.Room.{block_room, taken_for, opened_as, opened, tried}
use Rattle.room.specs.Trial.{is_trial, wiped_of, wiped, untried}
use Rattle.room.specs.Back.{Unmarked, Same-or-marked, same, marked, Tried, cleared, Wiped}
use Rattle.room.specs.SameBooks.{books_ext}
use Rattle.std.specs.Prelude.{Result, Ok, Err}
use Rattle.room.specs.declared.Room.{Room}

-- a trial answers as the opening does
answer_of : (s : List ℕ) (capacity hold listings : ℕ) (c : Result Room ℕ) → (taken_for s capacity hold listings c).answer ≡ c
answer_of s capacity hold listings (Err number) = refl
answer_of s capacity hold listings (Ok r) = refl

pub tried-answer : (s : List ℕ) (n pool c : ℕ) → (tried s n pool c).answer ≡ block_room s n pool c
unfolding tried opened_as
tried-answer s n pool c = answer_of s c 2 0 (block_room s n pool c)

pub opened-answer : (s : List ℕ) (n pool c : ℕ) → (opened s n pool c).answer ≡ block_room s n pool c
unfolding opened opened_as
opened-answer s n pool c = answer_of s c 0 1 (block_room s n pool c)

pub tried_as_opened : (s : List ℕ) (n pool c : ℕ) → (tried s n pool c).answer ≡ (opened s n pool c).answer
tried_as_opened s n pool c = tried-answer s n pool c ∙ sym (opened-answer s n pool c)

-- the books of a trial have the room that they had
pub tried_roomy : {s t : List ℕ} {n : ℕ} → Roomy s n → Tried s t n → Roomy t n
tried_roomy w h = record { bytes = h.bytes; room = omega (arith, w.room, h.framed.len); few = w.few }

-- what end_trial asks
pub tried_end_room : {s t : List ℕ} {n : ℕ} → Roomy s n → Tried s t n → 4 + 20 * used_of t ≤ length t
tried_end_room w h = omega (arith, h.used, (tried_roomy w h).room)

-- no block is tried yet
pub tried-none : {s : List ℕ} {n : ℕ} → Roomy s n → used_of s ≤ n → Tried s s n
tried-none {s} {n} w u =
    record {
      framed = framed_refl 0 (4 + 20 * n) s;
      bytes = w.bytes;
      more = omega arith;
      used = u;
      each = λ i l. same refl (λ h. h);
    }

-- one trial behind another
pub tried_trans : {s t u : List ℕ} {n : ℕ} → Tried s t n → Tried t u n → Tried s u n
tried_trans {s} {t} {u} a b =
    record {
      framed = framed_trans a.framed b.framed;
      bytes = b.bytes;
      more = omega (arith, a.more, b.more);
      used = b.used;
      each = λ k h. go k (a.each k h) (b.each k h);
    }
  where
    go : (k : ℕ) → Same-or-marked s t k → Same-or-marked t u k → Same-or-marked s u k
    go k (same p f) (same q g) = same (q ∙ p) (λ h. f (g h))
    go k (same p f) (marked z m h) = marked (sym p ∙ z) m h
    go k (marked z m h) (same q g) = marked z (rw q m) (omega (arith, b.more))
    go k (marked z m h) (marked y o l) = marked z o l

-- u numbers in use are no fewer than before, i among them, and no more than there are; every other one was
record Uses (t : List ℕ) (n i u : ℕ) : Type 0 where
  more : used_of t ≤ u
  here : i < u
  within : u ≤ n
  others : (k : ℕ) → (k ≡ i → ⊥) → k < u → k < used_of t

-- a free number, its entry zero, taken for a marked entry
module _ {t : List ℕ} {n : ℕ} (i : ℕ) (e : Entry) (w : Roomy t n) (v : used_of t ≤ n) (l : Lowest (is_free_at t) n i) (z : entry_of t i ≡ no_entry) (f : EntryWords e) (m : e.hold ≡ 2) where
  -- every number below the lowest free one is in use
  most : i ≤ used_of t
  most = go (dec_lt (used_of t) i)
    where
      go : Dec (used_of t < i) → i ≤ used_of t
      go (yes d) = absurd (true≢false (sym (free_beyond t (used_of t) (omega arith)) ∙ l.others (used_of t) d))
      go (no d) = omega arith

  uses : Uses t n i (used_of (taken t i e))
  uses =
      rw (used_taken i e w l.below)
      (by_cond (Uses t n i) (ltb i (used_of t))
      (λ q. record { more = omega arith; here = ltb-true i (used_of t) q; within = v; others = λ k d h. h })
      (λ q.
      record {
        more = omega (arith, ltb-false i (used_of t) q);
        here = omega arith;
        within = omega (arith, l.below);
        others = λ k d h. let x : k < i = below k d h in omega (arith, most);
      }))
    where
      below : (k : ℕ) → (k ≡ i → ⊥) → k < i + 1 → k < i
      below k d h = omega arith

  pub taken-tried : Tried t (taken t i e) n
  taken-tried =
      record {
        framed = c.framed;
        bytes = c.bytes;
        more = uses.more;
        used = uses.within;
        each = λ k a. go k (ℕ_discrete k i);
      }
    where
      c : Changed t (taken t i e) n i e
      c = taken-changed i w l.below e f

      go : (k : ℕ) → Dec (k ≡ i) → Same-or-marked t (taken t i e) k
      go k (yes d) = rw d (marked z (rw c.same m) uses.here)
      go k (no d) = same (c.other k d) (uses.others k d)

-- what wiping makes of an entry: a marked one becomes zero, one with hold no or yes stays
pub cleared-marked : (e : Entry) → e.hold ≡ 2 → cleared e ≡ no_entry
unfolding cleared is_trial
cleared-marked e h = rw (eq-eqb e.hold 2 h)

pub cleared_not : (e : Entry) → e.hold ≤ 1 → cleared e ≡ e
unfolding cleared is_trial
cleared_not e h = rw (ne_eqb e.hold 2 (omega arith))

-- one number wiped
pub wiped-changed : {t : List ℕ} {n : ℕ} (i : ℕ) → Roomy t n → i < n → Changed t (wiped_of t i) n i (cleared (entry_of t i))
unfolding wiped_of cleared
wiped-changed {t} {n} i r h = go (is_trial (entry_of t i))
  where
    go : (b : Bool) → Changed t (cond b (with_entry t i no_entry) t) n i (cond b no_entry (entry_of t i))
    go true = entry-changed i r h no_entry no_fits
    go false = changed-none i r

-- wiped books have the room that they had
pub wiped_roomy : {t u : List ℕ} {n m : ℕ} → Roomy t n → Wiped t u n m → Roomy u n
wiped_roomy r w = record { bytes = w.bytes; room = omega (arith, r.room, w.framed.len); few = r.few }

-- the first m numbers wiped
pub wiped-first : {t : List ℕ} {n : ℕ} (m : ℕ) → Roomy t n → m ≤ n → Wiped t (wiped t m) n m
unfolding wiped
wiped-first {t} {n} zero r h =
    record {
      framed = framed_refl 0 (4 + 20 * n) t;
      bytes = r.bytes;
      done = λ i l. absurd (omega arith);
      left = λ i l. refl;
    }
wiped-first {t} {n} (suc m) r h = next (wiped-first m r (omega arith))
  where
    next : Wiped t (wiped t m) n m → Wiped t (wiped_of (wiped t m) m) n (suc m)
    next w =
        record {
          framed = framed_trans w.framed c.framed;
          bytes = c.bytes;
          done = λ i l. here i l (ℕ_discrete i m);
          left = λ i l. c.other i (omega arith) ∙ w.left i (omega arith);
        }
      where
        c : Changed (wiped t m) (wiped_of (wiped t m) m) n m (cleared (entry_of (wiped t m) m))
        c = wiped-changed m (wiped_roomy r w) h

        here : (i : ℕ) → i < suc m → Dec (i ≡ m) → entry_of (wiped_of (wiped t m) m) i ≡ cleared (entry_of t i)
        here i l (yes d) = rw d (c.same ∙ ap cleared (w.left m (omega arith)))
        here i l (no d) = c.other i d ∙ w.done i (omega arith)

-- a wiped entry is as it was before the trial
pub wiped-back : {s t u : List ℕ} {n : ℕ} (i : ℕ) → Unmarked s → Tried s t n → Wiped t u n (used_of t) → i < n → entry_of u i ≡ entry_of s i
wiped-back {s} {t} {u} {n} i w h v l = go (h.each i l) (dec_lt i (used_of t))
  where
    go : Same-or-marked s t i → Dec (i < used_of t) → entry_of u i ≡ entry_of s i
    go (same e f) (yes d) = v.done i d ∙ ap cleared e ∙ cleared_not (entry_of s i) (w.holds i (f d))
    go (same e f) (no d) = v.left i (omega arith) ∙ e
    go (marked z m b) d = v.done i (omega arith) ∙ cleared-marked (entry_of t i) m ∙ sym z

-- THE THEOREM: the end of a trial puts every byte of the books back, whatever books it began with
pub tried-back : {s t : List ℕ} {n : ℕ} → Roomy s n → Unmarked s → Tried s t n → untried t (used_of s) ≡ s
unfolding untried
tried-back {s} {t} {n} w o h =
    books_ext n c.bytes w.bytes (c.framed.len ∙ v.framed.len ∙ h.framed.len)
    (used_with_used u (used_of s) (omega (arith, r.room)) (used_lt w))
    (λ i l. used_entry u (used_of s) i ∙ wiped-back i o h v l)
    (λ x l. c.framed.after x l ∙ v.framed.after x l ∙ h.framed.after x l)
  where
    u : List ℕ
    u = wiped t (used_of t)

    v : Wiped t u n (used_of t)
    v = wiped-first (used_of t) (tried_roomy w h) h.used

    r : Roomy u n
    r = wiped_roomy (tried_roomy w h) v

    c : Changed u (with_used u (used_of s)) n 0 (entry_of u 0)
    c = used_changed (changed-none 0 r) (used_of s) (used_lt w)

-- for the code: after end_trial
pub back_is : {s t t' : List ℕ} {n used : ℕ} → Roomy s n → Unmarked s → Tried s t n → used ≡ word32 s 0 → t' ≡ untried t used → t' ≡ s
unfolding used_of
back_is w o h p q = q ∙ rw p (tried-back w o h)
