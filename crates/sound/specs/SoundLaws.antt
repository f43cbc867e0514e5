-- Sound books with one entry changed are sound, where the new entry fits in; and the laws that this rests on.
use Rattle.std.specs.Prelude.{ℕ, ◌+◌, ◌≤◌, ◌<◌, ◌≡◌, refl, ◌≢◌, true, false, List}
use Rattle.std.proofs.Common.{sym, ◌∙◌, true≢false, arith, eq-eqb, ne_eqb}
use Rattle.std.proofs.Math.Decide.{ℕ_discrete}
use Rattle.search.specs.Cases.{false_of}
use Rattle.books.specs.declared.Entry.{Entry}
use Rattle.books.specs.Entry.{used_of, entry_of, is_free, share_byte}
use Rattle.books.specs.EntryLaws.{Shares, shares_says, shares_is}
use Rattle.listings.specs.Listing.{no_entry, settled}
use Rattle.sound.specs.Sound.{Sound, count_with}
use Rattle.sound.specs.Change.{Roomy, Changed}
use Rattle.sound.specs.Top.{Top, no_free, top-settled}

-- the counts with v at number i: there, and elsewhere
pub count_same : (count : ℕ → ℕ) (i v : ℕ) → count_with count i v i ≡ v
unfolding count_with
count_same count i v = rw (eq-eqb i i refl)

pub count_other : (count : ℕ → ℕ) (i v j : ℕ) → j ≢ i → count_with count i v j ≡ count j
unfolding count_with
count_other count i v j h = rw (ne_eqb j i h)

-- two runs that share no byte, as a test and as a fact; and the other way round
pub no_share : (a n b m : ℕ) → (Shares a n b m → ⊥) → share_byte a n b m ≡ false
no_share a n b m f = sym (false_of (share_byte a n b m) (λ t. f (shares_says a n b m t)))

pub no_share_says : (a n b m : ℕ) → share_byte a n b m ≡ false → Shares a n b m → ⊥
no_share_says a n b m e h = true≢false (sym (shares_is a n b m h) ∙ e)

pub shares_flip : {a n b m : ℕ} → Shares a n b m → Shares b m a n
shares_flip h = record { some = h.other; other = h.some; below = h.above; above = h.below }

-- what sound books give the laws of single changes
pub sound_roomy : {s : List ℕ} {n p : ℕ} {count : ℕ → ℕ} → Sound s n p count → Roomy s n
sound_roomy w = record { bytes = w.bytes; room = w.room; few = w.few }

pub sound_top : {s : List ℕ} {n p : ℕ} {count : ℕ → ℕ} → Sound s n p count → Top s n (used_of s)
sound_top w = record { within = w.used; last = w.tight; rest = λ i h l. rw (w.beyond i h l) no_free }

-- after any change that keeps the books sound the entries say how many numbers are in use
pub sound_used : {s : List ℕ} {n p : ℕ} {count : ℕ → ℕ} → Sound s n p count → used_of s ≡ settled s n
sound_used w = top-settled (sound_top w)

-- the counts below n are all that counts
pub sound_recount : {s : List ℕ} {n p : ℕ} {count : ℕ → ℕ} (other : ℕ → ℕ) → Sound s n p count → ((i : ℕ) → i < n → count i ≡ other i) → Sound s n p other
sound_recount other w q =
    record {
      bytes = w.bytes;
      room = w.room;
      few = w.few;
      used = w.used;
      tight = w.tight;
      beyond = w.beyond;
      zero = w.zero;
      inside = w.inside;
      filled = w.filled;
      apart = w.apart;
      held = w.held;
      counted = λ i h. w.counted i h ∙ q i h;
    }

-- the entry e can stand at number i of the books s, beside the others
pub record FitsIn (s : List ℕ) (n p i : ℕ) (e : Entry) : Type 0 where
  pub zero : is_free e ≡ true → e ≡ no_entry
  pub inside : e.start + e.capacity.0 ≤ p
  pub filled : e.length.0 ≤ e.capacity.0
  pub apart : (k : ℕ) → k < n → k ≢ i → share_byte e.start e.capacity.0 (entry_of s k).start (entry_of s k).capacity.0 ≡ false
  pub held : e.hold ≤ 1

-- a zero entry fits in anywhere
pub no_fits_in : (s : List ℕ) (n p i : ℕ) → FitsIn s n p i no_entry
no_fits_in s n p i =
    record {
      zero = λ f. refl;
      inside = omega arith;
      filled = omega arith;
      apart = λ k h d. no_share 0 0 (entry_of s k).start (entry_of s k).capacity.0 (λ g. omega (arith, g.some));
      held = omega arith;
    }

-- so does an entry with the room that number i has
pub room_fits_in : {s : List ℕ} {n p : ℕ} {count : ℕ → ℕ} (i : ℕ) (e : Entry) → Sound s n p count → i < n → e.start ≡ (entry_of s i).start → e.capacity.0 ≡ (entry_of s i).capacity.0 → e.length.0 ≤ e.capacity.0 → e.hold ≤ 1 → (is_free e ≡ true → e ≡ no_entry) → FitsIn s n p i e
room_fits_in i e w h a c l o z =
    record {
      zero = z;
      inside = omega (arith, w.inside i h);
      filled = l;
      apart = λ k g d. rw (a, c) (w.apart i k h g (λ q. d (sym q)));
      held = o;
    }

-- what holds of the new entry, and of every other one before, holds of every entry
pub changed-each : {s t : List ℕ} {n i : ℕ} {e : Entry} → Changed s t n i e → (P : ℕ → Entry → Type 0) → P i e → ((k : ℕ) → k < n → k ≢ i → P k (entry_of s k)) → (k : ℕ) → k < n → P k (entry_of t k)
changed-each {s} {t} {n} {i} {e} c P a b k h = go (ℕ_discrete k i)
  where
    go : Dec (k ≡ i) → P k (entry_of t k)
    go (yes d) = rw (d, c.same) a
    go (no d) = rw (c.other k d) (b k h d)

-- sound books with one entry changed
pub changed_sound : {s t : List ℕ} {n p i : ℕ} {e : Entry} {count : ℕ → ℕ} → Sound s n p count → Changed s t n i e → FitsIn s n p i e → Top t n (used_of t) → Sound t n p (count_with count i e.listings)
changed_sound {s} {t} {n} {p} {i} {e} {count} w c f a =
    record {
      bytes = c.bytes;
      room = omega (arith, w.room, c.framed.len);
      few = w.few;
      used = a.within;
      tight = a.last;
      beyond = λ k h l. zero_of k h (a.rest k h l);
      zero = zero_of;
      inside = changed-each c (λ k x. x.start + x.capacity.0 ≤ p) f.inside (λ k h d. w.inside k h);
      filled = changed-each c (λ k x. x.length.0 ≤ x.capacity.0) f.filled (λ k h d. w.filled k h);
      apart = λ j k h g. apart_of j h k g;
      held = changed-each c (λ k x. x.hold ≤ 1) f.held (λ k h d. w.held k h);
      counted =
          changed-each c (λ k x. x.listings ≡ count_with count i e.listings k) (sym (count_same count i e.listings))
          (λ k h d. w.counted k h ∙ sym (count_other count i e.listings k d));
    }
  where
    zero_of : (k : ℕ) → k < n → is_free (entry_of t k) ≡ true → entry_of t k ≡ no_entry
    zero_of = changed-each c (λ k x. is_free x ≡ true → x ≡ no_entry) f.zero (λ k h d. w.zero k h)

    -- the room of x, and that of the entry of number k, share no byte
    Off : Entry → Entry → Type 0
    Off x y = share_byte x.start x.capacity.0 y.start y.capacity.0 ≡ false

    flip : (x y : Entry) → Off x y → Off y x
    flip x y o =
        no_share y.start y.capacity.0 x.start x.capacity.0
        (λ g. no_share_says x.start x.capacity.0 y.start y.capacity.0 o (shares_flip g))

    apart_of : (j : ℕ) → j < n → (k : ℕ) → k < n → j ≢ k → Off (entry_of t j) (entry_of t k)
    apart_of =
        changed-each c (λ j x. (k : ℕ) → k < n → j ≢ k → Off x (entry_of t k))
        (λ k g d. rw (c.other k (λ q. d (sym q))) (f.apart k g (λ q. d (sym q))))
        (λ j h d. changed-each c (λ k y. j ≢ k → Off (entry_of s j) y) (λ l. flip e (entry_of s j) (f.apart j h d)) (λ k g l. w.apart j k h g))
