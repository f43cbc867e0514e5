-- A trial that puts the books back: the books that it may begin with, and the books in between.
use Rattle.std.specs.Prelude.{ℕ, ◌+◌, ◌*◌, ◌≤◌, ◌<◌, ◌≡◌, cond, List}
use Rattle.words.specs.WordLaws.{Bytes}
use Rattle.words.specs.Frame.{Framed}
use Rattle.books.specs.declared.Entry.{Entry}
use Rattle.books.specs.Entry.{used_of, entry_of}
use Rattle.listings.specs.Listing.{no_entry}
use Rattle.room.specs.Trial.{is_trial}

-- no buffer in use bears the mark of a trial (14 tests it)
pub record Unmarked (s : List ℕ) : Type 0 where
  pub holds : (i : ℕ) → i < used_of s → (entry_of s i).hold ≤ 1

-- the entry of number i during a trial: as it was, and in use only if it was; or zero before, and now marked among the numbers in use
pub data Same-or-marked (s t : List ℕ) (i : ℕ) : Type 0 where
  same : entry_of t i ≡ entry_of s i → (i < used_of t → i < used_of s) → Same-or-marked s t i
  marked : entry_of s i ≡ no_entry → (entry_of t i).hold ≡ 2 → i < used_of t → Same-or-marked s t i

-- t are the books of a trial that began with s
pub record Tried (s t : List ℕ) (n : ℕ) : Type 0 where
  -- every byte behind the entries is as it was
  pub framed : Framed 0 (4 + 20 * n) s t
  -- they are bytes
  pub bytes : Bytes t
  -- the numbers in use are those of before, and perhaps more
  pub more : used_of s ≤ used_of t
  -- no more numbers are in use than there are
  pub used : used_of t ≤ n
  -- each entry is as it was, or marked
  pub each : (i : ℕ) → i < n → Same-or-marked s t i

-- the entry, or a zero one if it is marked
unfoldable pub cleared : Entry → Entry
cleared e = cond (is_trial e) no_entry e

-- u are the books t with the first m numbers wiped
pub record Wiped (t u : List ℕ) (n m : ℕ) : Type 0 where
  -- every byte behind the entries is as it was
  pub framed : Framed 0 (4 + 20 * n) t u
  -- they are bytes
  pub bytes : Bytes u
  -- the entries below m are wiped
  pub done : (i : ℕ) → i < m → entry_of u i ≡ cleared (entry_of t i)
  -- the others are as they were
  pub left : (i : ℕ) → m ≤ i → entry_of u i ≡ entry_of t i
