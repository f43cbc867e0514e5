-- The ways out of the functions, the turns of their loops, and what they leave of lengths and numbers in use.
use Rattle.std.specs.Prelude.{ℕ, zero, suc, ◌+◌, ◌*◌, ◌-◌, ◌≤◌, ◌<◌, ◌^◌, ◌≡◌, Bool, true, false, List, length, ltb}
use Rattle.std.proofs.Math.Path.{refl}
use Rattle.std.proofs.Common.{sym, ◌∙◌, ap, arith, lt-ltb, le-ltb}
use Rattle.std.proofs.Math.Numerals.{add-one}
use Rattle.search.specs.Cases.{by_cond}
use Rattle.words.specs.Word.{word32, with_word32}
use Rattle.words.specs.WordLaws.{word32-same, length-with_word32}
use Rattle.words.specs.FrameLaws.{word_framed}
use Rattle.books.specs.declared.Entry.{Entry}
use Rattle.books.specs.Entry.{used_of, place, entry_of, with_entry, is_free}
use Rattle.books.specs.EntryLaws.{length-with_entry, used_with_entry, framed_used}
use Rattle.listings.specs.Listing.{no_entry, settled, with_used, freed, taken, free_unused, one_more, with_listings, listed_one, unlisted_one, released, over_list, Listed}

-- top_used: a turn, and the ends
pub settled-free : (s : List ℕ) (u top : ℕ) {below : ℕ} {e : Entry} {r : Bool} → settled s u ≡ settled s top → 0 < top → below ≡ top - 1 → e ≡ entry_of s below → r ≡ is_free e → r ≡ true → settled s u ≡ settled s below
unfolding settled
settled-free s u zero p h q t w z = absurd (omega arith)
settled-free s u (suc n) {below} {e} {r} p h q t w z =
    let b : below ≡ n = omega arith in
    let f : is_free (entry_of s n) ≡ true = rw (← b, ← t, ← w) z in
    p ∙ rw (f, b)

pub settled_here : (s : List ℕ) (u top : ℕ) {below : ℕ} {e : Entry} {r : Bool} → settled s u ≡ settled s top → 0 < top → below ≡ top - 1 → e ≡ entry_of s below → r ≡ is_free e → r ≡ false → top ≡ settled s u
unfolding settled
settled_here s u zero p h q t w z = absurd (omega arith)
settled_here s u (suc n) {below} {e} {r} p h q t w z =
    let b : below ≡ n = omega arith in
    let f : is_free (entry_of s n) ≡ false = rw (← b, ← t, ← w) z in
    sym (p ∙ rw f)

pub settled-none : (s : List ℕ) (u top : ℕ) → settled s u ≡ settled s top → top ≤ 0 → 0 ≡ settled s u
unfolding settled
settled-none s u zero p h = sym p
settled-none s u (suc n) p h = absurd (omega arith)

pub settled_le : (s : List ℕ) (n : ℕ) → settled s n ≤ n
unfolding settled
settled_le s zero = omega arith
settled_le s (suc n) = by_cond (λ (k : ℕ). k ≤ suc n) (is_free (entry_of s n)) (λ q. omega (arith, settled_le s n)) (λ q. omega arith)

-- the number in use
pub used_of_lem : (s : List ℕ) {u : ℕ} → u ≡ word32 s 0 → u ≡ used_of s
unfolding used_of
used_of_lem s e = e

pub used_with_used : (s : List ℕ) (u : ℕ) → 4 ≤ length s → u < 2 ^ 32 → used_of (with_used s u) ≡ u
unfolding used_of with_used
used_with_used s u h l = word32-same s 0 u h l

pub length-with_used : (s : List ℕ) (u : ℕ) → length (with_used s u) ≡ length s
unfolding with_used
length-with_used s u = length-with_word32 s 0 u

-- free_entry
pub free_room : (s : List ℕ) (i : ℕ) {t : List ℕ} {u : ℕ} → t ≡ with_entry s i no_entry → u ≡ word32 t 0 → 4 + 20 * used_of s ≤ length s → length t ≡ length s → 4 + 20 * u ≤ length t
free_room s i {t} {u} p q h l =
    let e : u ≡ used_of s = used_of_lem t q ∙ ap used_of p ∙ used_with_entry s i no_entry in omega arith

pub freed_is : (s : List ℕ) (i : ℕ) {t : List ℕ} {u : ℕ} {top : ℕ} {r : List ℕ} → t ≡ with_entry s i no_entry → u ≡ word32 t 0 → top ≡ settled t u → r ≡ with_word32 t 0 top → r ≡ freed s i
unfolding freed with_used
freed_is s i {t} {u} {top} {r} p q h w =
    let e : u ≡ used_of s = used_of_lem t q ∙ ap used_of p ∙ used_with_entry s i no_entry in
    rw (w, h, e, p)

-- take_entry
pub taken_in_use : (s : List ℕ) (i : ℕ) (e : Entry) {u : ℕ} {r : List ℕ} → u ≡ word32 s 0 → i < u → r ≡ with_entry s i e → r ≡ taken s i e
unfolding taken
taken_in_use s i e {u} p h q = rw (← (used_of_lem s p), lt-ltb i u h) q

pub taken_next : (s : List ℕ) (i : ℕ) (e : Entry) {u : ℕ} {t r : List ℕ} → u ≡ word32 s 0 → u ≤ i → t ≡ with_entry s i e → r ≡ with_word32 t 0 (i + 1) → r ≡ taken s i e
unfolding taken with_used
taken_next s i e {u} p h q w = rw (← (used_of_lem s p), le-ltb i u h, w, q)

-- free_unused
pub unused_is : (s : List ℕ) (i : ℕ) {e : Entry} {r : Bool} {t : List ℕ} → e ≡ entry_of s i → r ≡ is_free e → r ≡ true → t ≡ freed s i → t ≡ free_unused s i
unfolding free_unused
unused_is s i p q h w = rw (← p, ← q, h) w

pub unused_not : (s : List ℕ) (i : ℕ) {e : Entry} {r : Bool} → e ≡ entry_of s i → r ≡ is_free e → r ≡ false → s ≡ free_unused s i
unfolding free_unused
unused_not s i p q h = rw (← p, ← q, h)

-- one_more_lem
pub more_is : (k : ℕ) → k < 4294967295 → k + 1 ≡ one_more k
unfolding one_more
more_is k h = omega arith

pub more_not : (k : ℕ) → k < 2 ^ 32 → 4294967295 ≤ k → k ≡ one_more k
unfolding one_more
more_not k l h = omega arith

-- list_one, unlist_one, release
listings_of : (s : List ℕ) (i : ℕ) → word32 s (4 + 20 * i + 16) ≡ (entry_of s i).listings
unfolding entry_of
listings_of s i = refl

pub listed_is : (s : List ℕ) (i : ℕ) {k m : ℕ} {t : List ℕ} → k ≡ word32 s (4 + 20 * i + 16) → m ≡ one_more k → t ≡ with_word32 s (4 + 20 * i + 16) m → t ≡ listed_one s i
unfolding listed_one with_listings
listed_is s i p q w = rw (w, q, p, listings_of s i)

pub unlisted_less : (s : List ℕ) (i : ℕ) {k : ℕ} {t r : List ℕ} → k ≡ word32 s (4 + 20 * i + 16) → 0 < k → t ≡ with_word32 s (4 + 20 * i + 16) (k - 1) → r ≡ free_unused t i → r ≡ unlisted_one s i
unfolding unlisted_one with_listings
unlisted_less s i {k} p h w q = rw (← (listings_of s i), ← p, lt-ltb 0 k h, ← w) q

pub unlisted_none : (s : List ℕ) (i : ℕ) {k : ℕ} {r : List ℕ} → k ≡ word32 s (4 + 20 * i + 16) → k ≤ 0 → r ≡ free_unused s i → r ≡ unlisted_one s i
unfolding unlisted_one
unlisted_none s i {k} p h q = rw (← (listings_of s i), ← p, le-ltb 0 k h) q

pub released_is : (s : List ℕ) (i : ℕ) {t r : List ℕ} → t ≡ with_word32 s (4 + 20 * i + 12) 0 → r ≡ free_unused t i → r ≡ released s i
unfolding released
released_is s i p q = rw (← p) q

-- a word of an entry leaves the number in use
pub used_word : (s : List ℕ) (at v : ℕ) → 4 ≤ at → used_of (with_word32 s at v) ≡ used_of s
used_word s at v h = framed_used (word_framed s at v) h

pub word_room : (s : List ℕ) (i k v : ℕ) {t : List ℕ} → t ≡ with_word32 s (4 + 20 * i + k) v → 4 + 20 * used_of s ≤ length s → length t ≡ length s → 4 + 20 * used_of t ≤ length t
word_room s i k v {t} p h l = let e : used_of t ≡ used_of s = ap used_of p ∙ used_word s (4 + 20 * i + k) v (omega arith) in omega arith

-- over_list: a turn of the loop
module _ (f : List ℕ → ℕ → List ℕ) (s l : List ℕ) where
  pub over_none : s ≡ over_list f s l 0
  unfolding over_list
  over_none = refl

  pub over_more : (i : ℕ) {t t' : List ℕ} {k : ℕ} → t ≡ over_list f s l i → k ≡ word32 l (4 * i) → t' ≡ f t k → t' ≡ over_list f s l (i + 1)
  unfolding over_list
  over_more i p q r = rw add-one (cc)

  pub over_all : (i count : ℕ) {t : List ℕ} → t ≡ over_list f s l i → i ≤ count → count ≤ i → t ≡ over_list f s l count
  over_all i count p a b = let e : i ≡ count = omega arith in rw (← e) p

pub listed_room : {s : List ℕ} {n : ℕ} {l : List ℕ} {count : ℕ} (t : List ℕ) (i : ℕ) {k : ℕ} → Listed s n l count → i < count → k ≡ word32 l (4 * i) → length t ≡ length s → 24 + 20 * k ≤ length t
listed_room t i h a e d = let r = h.room in omega (arith, h.below i a)

-- what unlisting leaves of the numbers in use: no more of them
freed_used : (s : List ℕ) (i : ℕ) → 4 ≤ length s → used_of s < 2 ^ 32 → used_of (freed s i) ≤ used_of s
unfolding freed
freed_used s i h l =
    let b : settled (with_entry s i no_entry) (used_of s) ≤ used_of s = settled_le (with_entry s i no_entry) (used_of s) in
    rw (used_with_used (with_entry s i no_entry) (settled (with_entry s i no_entry) (used_of s)) (omega (arith, length-with_entry s i no_entry)) (omega arith)) b

unused_used : (s : List ℕ) (i : ℕ) → 4 ≤ length s → used_of s < 2 ^ 32 → used_of (free_unused s i) ≤ used_of s
unfolding free_unused
unused_used s i h l = by_cond (λ (t : List ℕ). used_of t ≤ used_of s) (is_free (entry_of s i)) (λ q. freed_used s i h l) (λ q. omega arith)

pub unlisted_used : (s : List ℕ) (i : ℕ) → 4 ≤ length s → used_of s < 2 ^ 32 → used_of (unlisted_one s i) ≤ used_of s
unfolding unlisted_one with_listings
unlisted_used s i h l =
    by_cond (λ (t : List ℕ). used_of (free_unused t i) ≤ used_of s) (ltb 0 (entry_of s i).listings)
    (λ q.
    let w : List ℕ = with_word32 s (place i + 16) ((entry_of s i).listings - 1) in
    let e : used_of w ≡ used_of s = used_word s (place i + 16) ((entry_of s i).listings - 1) (omega arith) in
    let b : used_of (free_unused w i) ≤ used_of w = unused_used w i (omega (arith, length-with_word32 s (place i + 16) ((entry_of s i).listings - 1))) (omega arith) in
    omega arith)
    (λ q. unused_used s i h l)

pub unlisted_still : {s₀ : List ℕ} {n : ℕ} {l : List ℕ} {count : ℕ} (s : List ℕ) {t : List ℕ} (i : ℕ) → Listed s₀ n l count → length s ≡ length s₀ → n < 2 ^ 32 → used_of s ≤ n → t ≡ unlisted_one s i → used_of t ≤ n
unlisted_still s i h e l u p = let r = h.room in rw p (omega (arith, unlisted_used s i (omega arith) (omega arith)))
