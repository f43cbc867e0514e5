-- Every change of the books keeps them sound: none yet, taken, listed, unlisted, let go, filled.
use Rattle.std.specs.Prelude.{ℕ, ◌+◌, ◌*◌, ◌-◌, ◌≤◌, ◌<◌, ◌≡◌, Bool, true, false, List, length, get_or}
use Rattle.std.proofs.Math.Path.{refl}
use Rattle.std.proofs.Common.{sym, ◌∙◌, ap, true≢false, arith}
use Rattle.std.proofs.Math.Decide.{ℕ_discrete}
use Rattle.search.specs.Cases.{by_cond}
use Rattle.words.specs.Word.{word_of, word32}
use Rattle.words.specs.WordLaws.{Bytes}
use Rattle.books.specs.declared.Entry.{Entry}
use Rattle.books.specs.Entry.{used_of, place, entry_of, is_free}
use Rattle.books.specs.EntryLaws.{EntryWords, entry-fits, Shares, Occupies}
use Rattle.books.specs.GapLaws.{GapAt}
use Rattle.listings.specs.Listing.{no_entry, freed, taken, free_unused, one_more, listed_one, unlisted_one, released}
use Rattle.listings.specs.ListingLaws.{more_is, used_word}
use Rattle.sound.specs.Sound.{Sound, count_with}
use Rattle.sound.specs.Change.{Changed, length_as, hold_as, listings_as, or_free, with_length}
use Rattle.sound.specs.OpLaws.{taken-changed, freed-changed, listed-changed, less_changed, hold_changed, length-changed, unused_changed, used_listed, used_less, used_length}
use Rattle.sound.specs.Live.{length-free, more_live, less_live, let_go_live, unused_listings}
use Rattle.sound.specs.Top.{live_used, taken-top, freed-top, still_top, unused_top}
use Rattle.sound.specs.SoundLaws.{count_same, count_other, no_share, shares_flip, sound_roomy, sound_top, sound_recount, FitsIn, no_fits_in, room_fits_in, changed_sound}

-- a word of zero bytes
word_zero : (s : List ℕ) (m at : ℕ) → ((x : ℕ) → x < m → get_or s x 0 ≡ 0) → at + 4 ≤ m → word32 s at ≡ 0
unfolding word32 word_of
word_zero s m at z h = rw (z at (omega arith), z (at + 1) (omega arith), z (at + 2) (omega arith), z (at + 3) (omega arith))

-- of zero bytes: no number is in use, and every entry is zero
zero_used : (s : List ℕ) (n : ℕ) → ((x : ℕ) → x < 4 + 20 * n → get_or s x 0 ≡ 0) → used_of s ≡ 0
unfolding used_of
zero_used s n z = word_zero s (4 + 20 * n) 0 z (omega arith)

zero_entry : (s : List ℕ) (n i : ℕ) → ((x : ℕ) → x < 4 + 20 * n → get_or s x 0 ≡ 0) → i < n → entry_of s i ≡ no_entry
unfolding entry_of
zero_entry s n i z h = rw (at (place i) (omega arith), at (place i + 4) (omega arith), at (place i + 8) (omega arith), at (place i + 12) (omega arith), at (place i + 16) (omega arith))
  where
    at : (a : ℕ) → a + 4 ≤ 4 + 20 * n → word32 s a ≡ 0
    at a g = word_zero s (4 + 20 * n) a z g

-- books of zero bytes are sound: nothing is listed
pub empty_sound : (s : List ℕ) (n p : ℕ) → Bytes s → 4 + 20 * n ≤ length s → n ≤ 65536 → ((x : ℕ) → x < 4 + 20 * n → get_or s x 0 ≡ 0) → Sound s n p (λ i. 0)
empty_sound s n p b r f z =
    record {
      bytes = b;
      room = r;
      few = f;
      used = rw none_used (omega arith);
      tight = λ h. absurd (omega (arith, none_used));
      beyond = λ i h l. none i h;
      zero = λ i h l. none i h;
      inside = λ i h. rw (none i h) (omega arith);
      filled = λ i h. rw (none i h) (omega arith);
      apart = λ i j h g d. rw (none i h) (no_share 0 0 (entry_of s j).start (entry_of s j).capacity.0 (λ o. omega (arith, o.some)));
      held = λ i h. rw (none i h) (omega arith);
      counted = λ i h. rw (none i h);
    }
  where
    none_used : used_of s ≡ 0
    none_used = zero_used s n z

    none : (i : ℕ) → i < n → entry_of s i ≡ no_entry
    none i h = zero_entry s n i z h

module _ {s : List ℕ} {n p : ℕ} {count : ℕ → ℕ} (i : ℕ) (w : Sound s n p count) (h : i < n) where
  -- the counts with those that number i has are the counts
  still : (k : ℕ) → Dec (k ≡ i) → count_with count i (entry_of s i).listings k ≡ count k
  still k (yes d) = rw d (count_same count i (entry_of s i).listings ∙ w.counted i h)
  still k (no d) = count_other count i (entry_of s i).listings k d

  -- taken: the new buffer lies in the pool, and no buffer in use occupies a byte of it
  pub taken_sound : (e : Entry) → EntryWords e → is_free e ≡ false → e.hold ≤ 1 → e.length.0 ≤ e.capacity.0 → e.start + e.capacity.0 ≤ p → ((k : ℕ) → k < used_of s → Occupies (entry_of s k) e.start e.capacity.0 → ⊥) → Sound (taken s i e) n p (count_with count i e.listings)
  taken_sound e f live o l inside clear =
      changed_sound w c
      (record {
        zero = λ z. absurd (true≢false (sym z ∙ live));
        inside = inside;
        filled = l;
        apart = λ k g d. no_share e.start e.capacity.0 (entry_of s k).start (entry_of s k).capacity.0 (λ x. none k g x (is_free (entry_of s k)) refl);
        held = o;
      })
      (taken-top i e (sound_roomy w) h c live (sound_top w))
    where
      c : Changed s (taken s i e) n i e
      c = taken-changed i (sound_roomy w) h e f

      none : (k : ℕ) → k < n → Shares e.start e.capacity.0 (entry_of s k).start (entry_of s k).capacity.0 → (b : Bool) → is_free (entry_of s k) ≡ b → ⊥
      none k g x true q = omega (arith, x.other, ap (λ (y : Entry). y.capacity.0) (w.zero k g q))
      none k g x false q = clear k (live_used k (sound_top w) g q) (record { live = q; shares = shares_flip x })

  -- in particular, taken for a buffer at a gap
  pub gap_sound : (e : Entry) → EntryWords e → is_free e ≡ false → e.hold ≤ 1 → e.length.0 ≤ e.capacity.0 → GapAt s p e.capacity.0 e.start → Sound (taken s i e) n p (count_with count i e.listings)
  gap_sound e f live o l g = taken_sound e f live o l g.fits g.clear

  -- freed, listed or not
  pub freed_sound : Sound (freed s i) n p (count_with count i 0)
  freed_sound =
      changed_sound w (freed-changed i (sound_roomy w) h) (no_fits_in s n p i)
      (freed-top i (sound_roomy w) h w.used (λ k g l d. (sound_top w).rest k g l))

  -- listed once more
  pub listed_sound : is_free (entry_of s i) ≡ false → count i < 4294967295 → Sound (listed_one s i) n p (count_with count i (count i + 1))
  listed_sound live l =
      let x : ℕ = one_more (entry_of s i).listings in
      let q : x ≡ count i + 1 = ap one_more (w.counted i h) ∙ sym (more_is (count i) l) in
      let new : is_free (listings_as (entry_of s i) x) ≡ false = more_live (entry_of s i) (entry_of s i).listings in
      let c : Changed s (listed_one s i) n i (listings_as (entry_of s i) x) = listed-changed i (sound_roomy w) h in
      rw q at
      (changed_sound w c
      (room_fits_in i (listings_as (entry_of s i) x) w h refl refl (w.filled i h) (w.held i h) (λ z. absurd (true≢false (sym z ∙ new))))
      (still_top c (used_listed s i) (new ∙ sym live) (sound_top w)))

  -- a change that leaves the room of number i and makes no free number live, then freed if unused
  pub unused_sound : {t : List ℕ} (e : Entry) → Changed s t n i e → used_of t ≡ used_of s → (is_free e ≡ false → is_free (entry_of s i) ≡ false) → e.start ≡ (entry_of s i).start → e.capacity.0 ≡ (entry_of s i).capacity.0 → e.length.0 ≤ e.capacity.0 → e.hold ≤ 1 → Sound (free_unused t i) n p (count_with count i e.listings)
  unfolding or_free
  unused_sound {t} e c u f a b l o =
      rw (unused_listings e) at
      (changed_sound w (unused_changed (sound_roomy w) h c)
      (by_cond (λ (x : Entry). FitsIn s n p i x) (is_free e)
      (λ q. no_fits_in s n p i)
      (λ q. room_fits_in i e w h a b l o (λ z. absurd (true≢false (sym z ∙ q)))))
      (unused_top (sound_roomy w) h c u f (sound_top w)))

  -- listed once less
  unlisted_once : Sound (unlisted_one s i) n p (count_with count i ((entry_of s i).listings - 1))
  unfolding unlisted_one
  unlisted_once =
      unused_sound (listings_as (entry_of s i) ((entry_of s i).listings - 1)) (less_changed i (sound_roomy w) h) (used_less s i) (less_live (entry_of s i)) refl refl (w.filled i h) (w.held i h)

  pub unlisted_sound : Sound (unlisted_one s i) n p (count_with count i (count i - 1))
  unlisted_sound = rw (w.counted i h) at unlisted_once

  -- let go
  pub released_sound : Sound (released s i) n p count
  unfolding released
  released_sound =
      sound_recount count
      (unused_sound (hold_as (entry_of s i) 0) (hold_changed i (sound_roomy w) h 0 (omega arith)) (used_word s (place i + 12) 0 (omega arith)) (let_go_live (entry_of s i)) refl refl (w.filled i h) (omega arith))
      (λ k g. still k (ℕ_discrete k i))

  -- filled up to v: number i has the capacity for it
  pub length_sound : (v : ℕ) → v ≤ (entry_of s i).capacity.0 → Sound (with_length s i v) n p count
  length_sound v l =
      let c : Changed s (with_length s i v) n i (length_as (entry_of s i) v) = length-changed i (sound_roomy w) h v (omega (arith, (entry-fits s i w.bytes).capacity_fits)) in
      sound_recount count
      (changed_sound w c (room_fits_in i (length_as (entry_of s i) v) w h refl refl l (w.held i h) none)
      (still_top c (used_length s i v) (length-free (entry_of s i) v) (sound_top w)))
      (λ k g. still k (ℕ_discrete k i))
    where
      none : is_free (length_as (entry_of s i) v) ≡ true → length_as (entry_of s i) v ≡ no_entry
      none f =
          let z : entry_of s i ≡ no_entry = w.zero i h (sym (length-free (entry_of s i) v) ∙ f) in
          let q : v ≡ 0 = omega (arith, ap (λ (y : Entry). y.capacity.0) z) in
          ap (λ (y : Entry). length_as y v) z ∙ ap (length_as no_entry) q
