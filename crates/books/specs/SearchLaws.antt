-- The lowest free number: what is answered, and what the answer says.
use Rattle.std.specs.Prelude.{ℕ, ◌+◌, ◌*◌, ◌≤◌, ◌<◌, ◌≡◌, refl, Bool, true, false, cond, List, length, ltb}
use Rattle.std.proofs.Common.{sym, ◌∙◌, ap, arith, lt-ltb, le-ltb}
use Rattle.std.specs.Prelude.{Option, None, Some}
use Rattle.search.specs.First.{first, Lowest, Passed}
use Rattle.search.specs.FirstLaws.{passed_none, passed_more, passed_at, passed_all, at-says, nothing-says}
use Rattle.words.specs.Word.{word32}
use Rattle.counts.specs.declared.BufferNumber.{BufferNumber}
use Rattle.books.specs.declared.Entry.{Entry}
use Rattle.books.specs.Entry.{used_of, entry_of, is_free, is_free_at}
use Rattle.books.specs.Search.{as_found, lowest_free}

-- what the code reads as the number in use
pub used_is : (s : List ℕ) {u : ℕ} → u ≡ word32 s 0 → u ≡ used_of s
unfolding used_of
used_is s e = e

pub used_room : (s : List ℕ) {u i : ℕ} → u ≡ word32 s 0 → i < u → 4 + 20 * used_of s ≤ length s → 24 + 20 * i ≤ length s
unfolding used_of
used_room s e l h = omega arith

pub used_room' : (s : List ℕ) (n : ℕ) {u i : ℕ} → u ≡ word32 s 0 → i < u → used_of s ≤ n → 4 + 20 * n ≤ length s → 24 + 20 * i ≤ length s
unfolding used_of
used_room' s n e l p h = omega arith

-- a number in use, and one that is not
pub free-below : (s : List ℕ) (i : ℕ) → i < used_of s → is_free_at s i ≡ is_free (entry_of s i)
unfolding is_free_at
free-below s i h = rw (lt-ltb i (used_of s) h)

pub free_beyond : (s : List ℕ) (i : ℕ) → used_of s ≤ i → is_free_at s i ≡ true
unfolding is_free_at
free_beyond s i h = rw (le-ltb i (used_of s) h)

-- a turn of the loop, and the ways out of lowest_free
pub free-none : (s : List ℕ) → Passed (is_free_at s) 0
free-none s = passed_none (is_free_at s)

pub free_more : (s : List ℕ) {i u : ℕ} {e : Entry} {r : Bool} → Passed (is_free_at s) i → u ≡ word32 s 0 → i < u → e ≡ entry_of s i → r ≡ is_free e → r ≡ false → Passed (is_free_at s) (i + 1)
unfolding used_of
free_more s {i} {u} {e} {r} o p l q t h = passed_more o (free-below s i (omega arith) ∙ rw (← q, ← t) h)

pub free_here : (s : List ℕ) {i u : ℕ} {e : Entry} {r : Bool} (n : ℕ) → Passed (is_free_at s) i → u ≡ word32 s 0 → i < u → used_of s ≤ n → e ≡ entry_of s i → r ≡ is_free e → r ≡ true → Some (record { 0 = i }) ≡ lowest_free s n
unfolding used_of lowest_free
free_here s {i} {u} {e} {r} n o p l m q t h = ap as_found (passed_at n o (omega arith) (free-below s i (omega arith) ∙ rw (← q, ← t) h))

pub free-next : (s : List ℕ) {i u : ℕ} (n : ℕ) → Passed (is_free_at s) i → u ≡ word32 s 0 → i ≤ u → u ≤ i → u < n → Some (record { 0 = u }) ≡ lowest_free s n
unfolding used_of lowest_free
free-next s {i} {u} n o p a b l =
    let q : i ≡ u = omega arith in
    ap as_found (passed_at n (rw q at o) l (free_beyond s u (omega arith)))

pub free-nothing : (s : List ℕ) {i u : ℕ} (n : ℕ) → Passed (is_free_at s) i → u ≡ word32 s 0 → u ≤ i → n ≤ u → None ≡ lowest_free s n
unfolding lowest_free
free-nothing s {i} {u} n o p a l = ap as_found (passed_all n o (omega arith))

-- what an answer says
found_says : (s : List ℕ) (n : ℕ) (k : BufferNumber) → lowest_free s n ≡ Some k → first (is_free_at s) n ≡ Some k.0
unfolding lowest_free
found_says s n k e = go (first (is_free_at s) n) e
  where
    go : (o : Option ℕ) → as_found o ≡ Some k → o ≡ Some k.0
    go None q = let z : ◌≡◌ {A = ℕ} 0 1 = cc in absurd (omega arith)
    go (Some i) q = ap Some (ap number_of q)
      where
        number_of : Option BufferNumber → ℕ
        number_of (Some j) = j.0
        number_of None = 0

pub lowest_free_lem : (s : List ℕ) (n : ℕ) (k : BufferNumber) → lowest_free s n ≡ Some k → Lowest (is_free_at s) n k.0
lowest_free_lem s n k e = at-says (is_free_at s) n k.0 (found_says s n k e)

pub none_free : (s : List ℕ) (n : ℕ) → lowest_free s n ≡ None → (i : ℕ) → i < n → is_free_at s i ≡ false
unfolding lowest_free
none_free s n e i h = go (first (is_free_at s) n) refl
  where
    go : (o : Option ℕ) → first (is_free_at s) n ≡ o → is_free_at s i ≡ false
    go None q = nothing-says (is_free_at s) n q i h
    go (Some k) q = let z : ◌≡◌ {A = ℕ} 0 1 = cc in absurd (omega arith)
