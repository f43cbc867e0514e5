-- What each change of the books makes of the entries, of the number in use, and of the bytes behind the entries.
use Rattle.std.specs.Prelude.{ℕ, ◌+◌, ◌*◌, ◌-◌, ◌≤◌, ◌<◌, ◌^◌, ◌≡◌, refl, ◌≢◌, Bool, true, false, cond, length, ltb}
use Rattle.std.proofs.Common.{◌∙◌, ap, arith, ltb-false}
use mathlib.Core.List.{List}
use Rattle.std.proofs.Math.Decide.{dec_lt}
use Rattle.search.specs.Cases.{by_cond}
use Rattle.words.specs.Word.{with_word32}
use Rattle.words.specs.WordLaws.{word32_lt, word32-same, word32_other, bytes-with_word32}
use Rattle.words.specs.Frame.{Apart, under, over}
use Rattle.words.specs.FrameLaws.{word_framed, framed_refl, framed_trans, framed_wider}
use Rattle.books.specs.declared.Entry.{Entry}
use Rattle.books.specs.Entry.{used_of, place, entry_of, with_entry, is_free}
use Rattle.books.specs.EntryLaws.{EntryWords, entry-fits, entry_framed, entry-same, entry_other, framed_entry, used_with_entry, bytes-with_entry, length-with_entry}
use Rattle.listings.specs.Listing.{no_entry, settled, with_used, freed, taken, free_unused, one_more, with_listings, listed_one, unlisted_one, released}
use Rattle.listings.specs.ListingLaws.{settled_le, used_with_used, used_word}
use Rattle.sound.specs.Change.{Roomy, Changed, length_as, hold_as, listings_as, or_free, with_length, with_less}

-- one change, and another of the same number
pub changed_then : {s t u : List ℕ} {n i : ℕ} {e f : Entry} → Changed s t n i e → Changed t u n i f → Changed s u n i f
changed_then c d =
    record {
      framed = framed_trans c.framed d.framed;
      bytes = d.bytes;
      same = d.same;
      other = λ k h. d.other k h ∙ c.other k h;
    }

-- no change
pub changed-none : {s : List ℕ} {n : ℕ} (i : ℕ) → Roomy s n → Changed s s n i (entry_of s i)
changed-none {s} {n} i r =
    record { framed = framed_refl 0 (4 + 20 * n) s; bytes = r.bytes; same = refl; other = λ k h. refl }

-- changed books have the room that they had
pub changed_roomy : {s t : List ℕ} {n i : ℕ} {e : Entry} → Roomy s n → Changed s t n i e → Roomy t n
changed_roomy r c = record { bytes = c.bytes; room = omega (arith, r.room, c.framed.len); few = r.few }

-- the number in use is a word
pub used_lt : {s : List ℕ} {n : ℕ} → Roomy s n → used_of s < 2 ^ 32
unfolding used_of
used_lt {s} r = word32_lt s 0 r.bytes

-- the number in use is no part of an entry
pub used_entry : (s : List ℕ) (u k : ℕ) → entry_of (with_used s u) k ≡ entry_of s k
unfolding with_used
used_entry s u k = framed_entry k (word_framed s 0 u) (over (omega arith))

-- and it can be changed besides
pub used_changed : {s t : List ℕ} {n i : ℕ} {e : Entry} → Changed s t n i e → (u : ℕ) → u < 2 ^ 32 → Changed s (with_used t u) n i e
unfolding with_used
used_changed {s} {t} {n} {i} c u h =
    record {
      framed = framed_trans c.framed (framed_wider 0 (4 + 20 * n) (word_framed t 0 u) (omega arith) (omega arith));
      bytes = bytes-with_word32 t 0 u c.bytes h;
      same = used_entry t u i ∙ c.same;
      other = λ k d. used_entry t u k ∙ c.other k d;
    }

-- a freed number: the entries are those with a zero one there
pub freed-entry : (s : List ℕ) (i k : ℕ) → entry_of (freed s i) k ≡ entry_of (with_entry s i no_entry) k
unfolding freed
freed-entry s i k = used_entry (with_entry s i no_entry) (settled (with_entry s i no_entry) (used_of s)) k

-- a zero entry is of words
pub no_fits : EntryWords no_entry
no_fits = record { start_fits = omega arith; capacity_fits = omega arith; length-fits = omega arith; hold_fits = omega arith; listings-fits = omega arith }

-- one more fits a word
pub more-fits : (k : ℕ) → one_more k < 2 ^ 32
unfolding one_more
more-fits k = omega arith

-- the entry of number i with a word put into it: a length, a hold, a count of listings
module _ (s : List ℕ) (i v : ℕ) where
  length-same : place i + 20 ≤ length s → v < 2 ^ 32 → entry_of (with_word32 s (place i + 8) v) i ≡ length_as (entry_of s i) v
  unfolding entry_of
  length-same h f =
      rw (
        word32_other s (place i + 8) v (place i) (omega arith),
        word32_other s (place i + 8) v (place i + 4) (omega arith),
        word32-same s (place i + 8) v (omega arith) f,
        word32_other s (place i + 8) v (place i + 12) (omega arith),
        word32_other s (place i + 8) v (place i + 16) (omega arith),
      )

  hold_same : place i + 20 ≤ length s → v < 2 ^ 32 → entry_of (with_word32 s (place i + 12) v) i ≡ hold_as (entry_of s i) v
  unfolding entry_of
  hold_same h f =
      rw (
        word32_other s (place i + 12) v (place i) (omega arith),
        word32_other s (place i + 12) v (place i + 4) (omega arith),
        word32_other s (place i + 12) v (place i + 8) (omega arith),
        word32-same s (place i + 12) v (omega arith) f,
        word32_other s (place i + 12) v (place i + 16) (omega arith),
      )

  listings-same : place i + 20 ≤ length s → v < 2 ^ 32 → entry_of (with_word32 s (place i + 16) v) i ≡ listings_as (entry_of s i) v
  unfolding entry_of
  listings-same h f =
      rw (
        word32_other s (place i + 16) v (place i) (omega arith),
        word32_other s (place i + 16) v (place i + 4) (omega arith),
        word32_other s (place i + 16) v (place i + 8) (omega arith),
        word32_other s (place i + 16) v (place i + 12) (omega arith),
        word32-same s (place i + 16) v (omega arith) f,
      )

-- the changes of number i, below n
module _ {s : List ℕ} {n : ℕ} (i : ℕ) (r : Roomy s n) (h : i < n) where
  -- the entry lies in the books
  room : place i + 20 ≤ length s
  room = omega (arith, r.room)

  -- a word of the entry
  word_changed : (at v : ℕ) (e : Entry) → place i ≤ at → at + 4 ≤ place i + 20 → v < 2 ^ 32 → entry_of (with_word32 s at v) i ≡ e → Changed s (with_word32 s at v) n i e
  word_changed at v e a b f q =
      record {
        framed = framed_wider 0 (4 + 20 * n) (word_framed s at v) (omega arith) (omega arith);
        bytes = bytes-with_word32 s at v r.bytes f;
        same = q;
        other = λ k d. framed_entry k (word_framed s at v) (elsewhere k d (dec_lt k i));
      }
    where
      elsewhere : (k : ℕ) → k ≢ i → Dec (k < i) → Apart at (at + 4) (place k) 20
      elsewhere k d (yes l) = under (omega arith)
      elsewhere k d (no l) = over (omega arith)

  -- a whole entry
  pub entry-changed : (e : Entry) → EntryWords e → Changed s (with_entry s i e) n i e
  entry-changed e f =
      record {
        framed = framed_wider 0 (4 + 20 * n) (entry_framed s i e) (omega arith) (omega arith);
        bytes = bytes-with_entry s i e r.bytes f;
        same = entry-same s i e room f;
        other = entry_other s i e;
      }

  -- taken, freed
  pub taken-changed : (e : Entry) → EntryWords e → Changed s (taken s i e) n i e
  unfolding taken
  taken-changed e f =
      by_cond (λ (t : List ℕ). Changed s t n i e) (ltb i (used_of s))
      (λ q. entry-changed e f)
      (λ q. used_changed (entry-changed e f) (i + 1) (omega (arith, r.few)))

  pub freed-changed : Changed s (freed s i) n i no_entry
  unfolding freed
  freed-changed =
      used_changed (entry-changed no_entry no_fits) (settled (with_entry s i no_entry) (used_of s))
      (omega (arith, settled_le (with_entry s i no_entry) (used_of s), used_lt r))

  -- another length, another hold, another count of listings, one listing more
  pub length-changed : (v : ℕ) → v < 2 ^ 32 → Changed s (with_length s i v) n i (length_as (entry_of s i) v)
  unfolding with_length
  length-changed v f = word_changed (place i + 8) v _ (omega arith) (omega arith) f (length-same s i v room f)

  pub hold_changed : (v : ℕ) → v < 2 ^ 32 → Changed s (with_word32 s (place i + 12) v) n i (hold_as (entry_of s i) v)
  hold_changed v f = word_changed (place i + 12) v _ (omega arith) (omega arith) f (hold_same s i v room f)

  pub listings-changed : (v : ℕ) → v < 2 ^ 32 → Changed s (with_listings s i v) n i (listings_as (entry_of s i) v)
  unfolding with_listings
  listings-changed v f = word_changed (place i + 16) v _ (omega arith) (omega arith) f (listings-same s i v room f)

  pub listed-changed : Changed s (listed_one s i) n i (listings_as (entry_of s i) (one_more (entry_of s i).listings))
  unfolding listed_one
  listed-changed = listings-changed (one_more (entry_of s i).listings) (more-fits (entry_of s i).listings)

-- a number whose entry was changed, freed if that left it unused
pub unused_changed : {s w : List ℕ} {n i : ℕ} {e : Entry} → Roomy s n → i < n → Changed s w n i e → Changed s (free_unused w i) n i (or_free e)
unfolding free_unused or_free
unused_changed {s} {w} {n} {i} {e} r h c = go (is_free e) refl
  where
    go : (b : Bool) → is_free e ≡ b → Changed s (cond (is_free (entry_of w i)) (freed w i) w) n i (cond (is_free e) no_entry e)
    go true q = rw (c.same, q) (changed_then c (freed-changed i (changed_roomy r c) h))
    go false q = rw (c.same, q) c

-- one listing less; then freed if unused; and so where it is let go
pub less_changed : {s : List ℕ} {n : ℕ} (i : ℕ) → Roomy s n → i < n → Changed s (with_less s i) n i (listings_as (entry_of s i) ((entry_of s i).listings - 1))
less_changed {s} {n} i r h =
    by_cond (λ (t : List ℕ). Changed s t n i (listings_as (entry_of s i) ((entry_of s i).listings - 1))) (ltb 0 (entry_of s i).listings)
    (λ q. listings-changed i r h ((entry_of s i).listings - 1) (omega (arith, (entry-fits s i r.bytes).listings-fits)))
    (λ q.
    let z : (entry_of s i).listings ≡ (entry_of s i).listings - 1 = omega (arith, ltb-false 0 (entry_of s i).listings q) in
    let e : entry_of s i ≡ listings_as (entry_of s i) ((entry_of s i).listings - 1) = ap (listings_as (entry_of s i)) z in
    let c : Changed s s n i (entry_of s i) = changed-none i r in
    record { framed = c.framed; bytes = c.bytes; same = e; other = c.other })

pub unlisted_changed : {s : List ℕ} {n : ℕ} (i : ℕ) → Roomy s n → i < n → Changed s (unlisted_one s i) n i (or_free (listings_as (entry_of s i) ((entry_of s i).listings - 1)))
unfolding unlisted_one
unlisted_changed i r h = unused_changed r h (less_changed i r h)

pub released-changed : {s : List ℕ} {n : ℕ} (i : ℕ) → Roomy s n → i < n → Changed s (released s i) n i (or_free (hold_as (entry_of s i) 0))
unfolding released
released-changed i r h = unused_changed r h (hold_changed i r h 0 (omega arith))

-- the number in use after each change
pub used_taken : {s : List ℕ} {n : ℕ} (i : ℕ) (e : Entry) → Roomy s n → i < n → used_of (taken s i e) ≡ cond (ltb i (used_of s)) (used_of s) (i + 1)
unfolding taken
used_taken {s} i e r h = go (ltb i (used_of s))
  where
    go : (b : Bool) → used_of (cond b (with_entry s i e) (with_used (with_entry s i e) (i + 1))) ≡ cond b (used_of s) (i + 1)
    go true = used_with_entry s i e
    go false = used_with_used (with_entry s i e) (i + 1) (omega (arith, r.room, length-with_entry s i e)) (omega (arith, r.few))

pub used_freed : {s : List ℕ} {n : ℕ} (i : ℕ) → Roomy s n → used_of (freed s i) ≡ settled (with_entry s i no_entry) (used_of s)
unfolding freed
used_freed {s} i r =
    used_with_used (with_entry s i no_entry) (settled (with_entry s i no_entry) (used_of s))
    (omega (arith, r.room, length-with_entry s i no_entry))
    (omega (arith, settled_le (with_entry s i no_entry) (used_of s), used_lt r))

pub used_unused : {s : List ℕ} {n : ℕ} (i : ℕ) → Roomy s n → used_of (free_unused s i) ≡ cond (is_free (entry_of s i)) (settled (with_entry s i no_entry) (used_of s)) (used_of s)
unfolding free_unused
used_unused {s} i r = go (is_free (entry_of s i))
  where
    go : (b : Bool) → used_of (cond b (freed s i) s) ≡ cond b (settled (with_entry s i no_entry) (used_of s)) (used_of s)
    go true = used_freed i r
    go false = refl

pub used_listed : (s : List ℕ) (i : ℕ) → used_of (listed_one s i) ≡ used_of s
unfolding listed_one with_listings
used_listed s i = used_word s (place i + 16) (one_more (entry_of s i).listings) (omega arith)

pub used_length : (s : List ℕ) (i v : ℕ) → used_of (with_length s i v) ≡ used_of s
unfolding with_length
used_length s i v = used_word s (place i + 8) v (omega arith)

pub used_less : (s : List ℕ) (i : ℕ) → used_of (with_less s i) ≡ used_of s
unfolding with_listings
used_less s i =
    by_cond (λ (t : List ℕ). used_of t ≡ used_of s) (ltb 0 (entry_of s i).listings)
    (λ q. used_word s (place i + 16) ((entry_of s i).listings - 1) (omega arith))
    (λ q. refl)
