-- A stored entry: what it reads as, what it leaves; what sharing a byte means.
use Rattle.std.specs.Prelude.{ℕ, ◌+◌, ◌*◌, ◌-◌, ◌≤◌, ◌<◌, ◌^◌, max, min, ◌≡◌, refl, ◌≢◌, Bool, true, false, not, ◌&&◌, List, length, ltb, eqb}
use Rattle.std.proofs.Common.{sym, ◌∙◌, ap, true≢false, arith, ltb-true, eqb-true, lt-ltb, le-ltb, eq-eqb, ne_eqb}
use Rattle.std.proofs.Math.Bool.{and-eq-true_iff}
use Rattle.std.proofs.Math.Decide.{dec_lt}
use Rattle.std.proofs.lemmas.Bool.{not-true}
use Rattle.search.specs.Cases.{both, both_fails, both_rest, false_of}
use Rattle.words.specs.Word.{word32, with_word32}
use Rattle.words.specs.WordLaws.{Bytes, word32_lt, word32-same, word32_other, length-with_word32, bytes-with_word32}
use Rattle.words.specs.Frame.{Framed, Apart, under, over}
use Rattle.words.specs.FrameLaws.{word_framed, framed_trans, framed_wider, framed_word}
use Rattle.books.specs.declared.Entry.{Entry}
use Rattle.books.specs.Entry.{used_of, place, entry_of, with_entry, is_free, is_free_at, share_byte, occupies}

-- each number of the entry is a word
pub record EntryWords (e : Entry) : Type 0 where
  pub start_fits : e.start < 2 ^ 32
  pub capacity_fits : e.capacity.0 < 2 ^ 32
  pub length-fits : e.length.0 < 2 ^ 32
  pub hold_fits : e.hold < 2 ^ 32
  pub listings-fits : e.listings < 2 ^ 32

pub entry-fits : (s : List ℕ) (i : ℕ) → Bytes s → EntryWords (entry_of s i)
unfolding entry_of
entry-fits s i b =
    record {
      start_fits = word32_lt s (place i) b;
      capacity_fits = word32_lt s (place i + 4) b;
      length-fits = word32_lt s (place i + 8) b;
      hold_fits = word32_lt s (place i + 12) b;
      listings-fits = word32_lt s (place i + 16) b;
    }

-- what entry_at returns
pub entry_is : (s : List ℕ) (i : ℕ) {a b c d e : ℕ} → a ≡ word32 s (place i) → b ≡ word32 s (place i + 4) → c ≡ word32 s (place i + 8) → d ≡ word32 s (place i + 12) → e ≡ word32 s (place i + 16) → ◌≡◌ {A = Entry} (record { start = a; capacity = record { 0 = b }; length = record { 0 = c }; hold = d; listings = e }) (entry_of s i)
unfolding entry_of
entry_is s i p q r t u = rw (p, q, r, t, u)

pub length-with_entry : (s : List ℕ) (i : ℕ) (e : Entry) → length (with_entry s i e) ≡ length s
unfolding with_entry
length-with_entry s i e = simp length-with_word32

-- an entry changes its 20 bytes and no other
pub entry_framed : (s : List ℕ) (i : ℕ) (e : Entry) → Framed (place i) (place i + 20) s (with_entry s i e)
unfolding with_entry
entry_framed s i e =
    framed_trans (wide (place i) e.start s (omega arith) (omega arith))
    (framed_trans (wide (place i + 4) e.capacity.0 _ (omega arith) (omega arith))
    (framed_trans (wide (place i + 8) e.length.0 _ (omega arith) (omega arith))
    (framed_trans (wide (place i + 12) e.hold _ (omega arith) (omega arith))
    (wide (place i + 16) e.listings _ (omega arith) (omega arith)))))
  where
    wide : (k w : ℕ) (t : List ℕ) → place i ≤ k → k + 4 ≤ place i + 20 → Framed (place i) (place i + 20) t (with_word32 t k w)
    wide k w t a b = framed_wider (place i) (place i + 20) (word_framed t k w) a b

module _ (s : List ℕ) (i : ℕ) (e : Entry) where
  -- the word at each of the five places
  start-same : place i + 20 ≤ length s → EntryWords e → word32 (with_entry s i e) (place i) ≡ e.start
  unfolding with_entry
  start-same h f =
      rw (
        word32_other _ (place i + 16) _ (place i) (omega arith),
        word32_other _ (place i + 12) _ (place i) (omega arith),
        word32_other _ (place i + 8) _ (place i) (omega arith),
        word32_other _ (place i + 4) _ (place i) (omega arith),
      )
      (word32-same _ (place i) _ (omega arith) f.start_fits)

  capacity_same : place i + 20 ≤ length s → EntryWords e → word32 (with_entry s i e) (place i + 4) ≡ e.capacity.0
  unfolding with_entry
  capacity_same h f =
      rw (
        word32_other _ (place i + 16) _ (place i + 4) (omega arith),
        word32_other _ (place i + 12) _ (place i + 4) (omega arith),
        word32_other _ (place i + 8) _ (place i + 4) (omega arith),
      )
      (word32-same _ (place i + 4) _ (simp length-with_word32 (omega arith)) f.capacity_fits)

  length-same : place i + 20 ≤ length s → EntryWords e → word32 (with_entry s i e) (place i + 8) ≡ e.length.0
  unfolding with_entry
  length-same h f =
      rw (word32_other _ (place i + 16) _ (place i + 8) (omega arith), word32_other _ (place i + 12) _ (place i + 8) (omega arith))
      (word32-same _ (place i + 8) _ (simp length-with_word32 (omega arith)) f.length-fits)

  hold_same : place i + 20 ≤ length s → EntryWords e → word32 (with_entry s i e) (place i + 12) ≡ e.hold
  unfolding with_entry
  hold_same h f =
      rw (word32_other _ (place i + 16) _ (place i + 12) (omega arith))
      (word32-same _ (place i + 12) _ (simp length-with_word32 (omega arith)) f.hold_fits)

  listings-same : place i + 20 ≤ length s → EntryWords e → word32 (with_entry s i e) (place i + 16) ≡ e.listings
  unfolding with_entry
  listings-same h f = word32-same _ (place i + 16) _ (simp length-with_word32 (omega arith)) f.listings-fits

  -- an entry read where it was put
  pub entry-same : place i + 20 ≤ length s → EntryWords e → entry_of (with_entry s i e) i ≡ e
  unfolding entry_of
  entry-same h f = rw (start-same h f, capacity_same h f, length-same h f, hold_same h f, listings-same h f)

-- what a change leaves of an entry, and of the number in use
pub framed_entry : {lo hi : ℕ} {s t : List ℕ} (k : ℕ) → Framed lo hi s t → Apart lo hi (place k) 20 → entry_of t k ≡ entry_of s k
unfolding entry_of
framed_entry {lo} {hi} {s} {t} k f d =
    rw (at (place k) (omega arith) (omega arith), at (place k + 4) (omega arith) (omega arith), at (place k + 8) (omega arith) (omega arith), at (place k + 12) (omega arith) (omega arith), at (place k + 16) (omega arith) (omega arith))
  where
    part : (a : ℕ) → place k ≤ a → a + 4 ≤ place k + 20 → Apart lo hi (place k) 20 → Apart lo hi a 4
    part a p q (under h) = under (omega arith)
    part a p q (over h) = over (omega arith)

    at : (a : ℕ) → place k ≤ a → a + 4 ≤ place k + 20 → word32 t a ≡ word32 s a
    at a p q = framed_word a f (part a p q d)

pub framed_used : {lo hi : ℕ} {s t : List ℕ} → Framed lo hi s t → 4 ≤ lo → used_of t ≡ used_of s
unfolding used_of
framed_used f h = framed_word 0 f (under (omega arith))

pub entry_other : (s : List ℕ) (i : ℕ) (e : Entry) (k : ℕ) → k ≢ i → entry_of (with_entry s i e) k ≡ entry_of s k
entry_other s i e k d = framed_entry k (entry_framed s i e) (go (dec_lt k i))
  where
    go : Dec (k < i) → Apart (place i) (place i + 20) (place k) 20
    go (yes l) = under (omega arith)
    go (no l) = over (omega arith)

pub used_with_entry : (s : List ℕ) (i : ℕ) (e : Entry) → used_of (with_entry s i e) ≡ used_of s
used_with_entry s i e = framed_used (entry_framed s i e) (omega arith)

pub bytes-with_entry : (s : List ℕ) (i : ℕ) (e : Entry) → Bytes s → EntryWords e → Bytes (with_entry s i e)
unfolding with_entry
bytes-with_entry s i e b f =
    bytes-with_word32 _ _ _ (bytes-with_word32 _ _ _ (bytes-with_word32 _ _ _ (bytes-with_word32 _ _ _ (bytes-with_word32 _ _ _ b f.start_fits) f.capacity_fits) f.length-fits) f.hold_fits) f.listings-fits

-- the ways out of is_free
pub free-last : (e : Entry) → e.hold ≡ 0 → eqb e.listings 0 ≡ is_free e
unfolding is_free
free-last e h = both_rest _ (eq-eqb e.hold 0 h)

pub free_held : (e : Entry) → (e.hold ≡ 0 → ⊥) → false ≡ is_free e
unfolding is_free
free_held e h = both_fails _ (ne_eqb e.hold 0 h)

-- free, as facts
pub free-says : (e : Entry) → is_free e ≡ true → (e.hold ≡ 0) × (e.listings ≡ 0)
unfolding is_free
free-says e h = let p = (and-eq-true_iff (eqb e.hold 0) (eqb e.listings 0)).0 h in (eqb-true e.hold 0 p.0, eqb-true e.listings 0 p.1)

pub free_is : (e : Entry) → e.hold ≡ 0 → e.listings ≡ 0 → is_free e ≡ true
unfolding is_free
free_is e p q = both (eq-eqb e.hold 0 p) (eq-eqb e.listings 0 q)

-- two runs that have a byte in common
pub record Shares (a n b m : ℕ) : Type 0 where
  pub some : 0 < n
  pub other : 0 < m
  pub below : b < a + n
  pub above : a < b + m

pub shares_says : (a n b m : ℕ) → share_byte a n b m ≡ true → Shares a n b m
unfolding share_byte
shares_says a n b m h =
    let l : max a b < min (a + n) (b + m) = ltb-true (max a b) (min (a + n) (b + m)) h in
    record { some = omega arith; other = omega arith; below = omega arith; above = omega arith }

pub shares_is : (a n b m : ℕ) → Shares a n b m → share_byte a n b m ≡ true
unfolding share_byte
shares_is a n b m h = lt-ltb (max a b) (min (a + n) (b + m)) (omega arith)

-- a live buffer in the way
pub record Occupies (e : Entry) (at size : ℕ) : Type 0 where
  pub live : is_free e ≡ false
  pub shares : Shares e.start e.capacity.0 at size

pub occupies-says : (e : Entry) (at size : ℕ) → occupies e at size ≡ true → Occupies e at size
unfolding occupies
occupies-says e at size h =
    let p = (and-eq-true_iff (not (is_free e)) (share_byte e.start e.capacity.0 at size)).0 h in
    record { live = not-true (is_free e) p.0; shares = shares_says e.start e.capacity.0 at size p.1 }

pub occupies_is : (e : Entry) (at size : ℕ) → Occupies e at size → occupies e at size ≡ true
unfolding occupies
occupies_is e at size h = rw h.live (shares_is e.start e.capacity.0 at size h.shares)
