-- What taking, listing, unlisting, letting go and freeing make of the books.
use Rattle.std.specs.Prelude.{ℕ, zero, suc, ◌+◌, ◌*◌, ◌-◌, ◌≤◌, ◌<◌, min, cond, List, length, ltb}
use Rattle.words.specs.Word.{word32, with_word32}
use Rattle.books.specs.declared.Entry.{Entry}
use Rattle.books.specs.Entry.{used_of, place, entry_of, with_entry, is_free}

-- the entry of a free number. 01: "its entry in the books is zero"
abbrev pub no_entry : Entry
no_entry = record { start = 0; capacity = record { 0 = 0 }; length = record { 0 = 0 }; hold = 0; listings = 0 }

-- one more than the highest of the first n numbers that is not free
unfoldable pub settled : List ℕ → ℕ → ℕ
settled s zero = 0
settled s (suc n) = cond (is_free (entry_of s n)) (settled s n) (suc n)

-- the books with u numbers in use
unfoldable pub with_used : List ℕ → ℕ → List ℕ
with_used s u = with_word32 s 0 u

-- number i freed. 01: "it is free, its entry in the books is zero, and its number and room are used again"
unfoldable pub freed : List ℕ → ℕ → List ℕ
freed s i = with_used (with_entry s i no_entry) (settled (with_entry s i no_entry) (used_of s))

-- the free number i taken for the entry e
unfoldable pub taken : List ℕ → ℕ → Entry → List ℕ
taken s i e = cond (ltb i (used_of s)) (with_entry s i e) (with_used (with_entry s i e) (i + 1))

-- number i freed if nobody holds it and nothing lists it. 01: "With no hold and no listing left it is free"
unfoldable pub free_unused : List ℕ → ℕ → List ℕ
free_unused s i = cond (is_free (entry_of s i)) (freed s i) s

-- one more, as far as a word goes (no history comes near: the listings of one set-up are below 2 ^ 25)
unfoldable pub one_more : ℕ → ℕ
one_more k = min (k + 1) 4294967295

-- the books with k listings of number i
unfoldable pub with_listings : List ℕ → ℕ → ℕ → List ℕ
with_listings s i k = with_word32 s (place i + 16) k

-- number i listed once more; listed once less, and freed if unused; no longer held, and freed if unused
unfoldable pub listed_one : List ℕ → ℕ → List ℕ
listed_one s i = with_listings s i (one_more (entry_of s i).listings)

unfoldable pub unlisted_one : List ℕ → ℕ → List ℕ
unlisted_one s i = free_unused (cond (ltb 0 (entry_of s i).listings) (with_listings s i ((entry_of s i).listings - 1)) s) i

unfoldable pub released : List ℕ → ℕ → List ℕ
released s i = free_unused (with_word32 s (place i + 12) 0) i

-- a change made for each of the first `count` numbers of a list, as often as a number stands there
unfoldable pub over_list : (List ℕ → ℕ → List ℕ) → List ℕ → List ℕ → ℕ → List ℕ
over_list f s l zero = s
over_list f s l (suc i) = f (over_list f s l i) (word32 l (4 * i))

-- books with room for n entries, of which those in use are; and a list whose first `count` numbers are below n
pub record Listed (s : List ℕ) (n : ℕ) (l : List ℕ) (count : ℕ) : Type 0 where
  pub room : 4 + 20 * n ≤ length s
  pub used : used_of s ≤ n
  pub list_room : 4 * count ≤ length l
  pub below : (i : ℕ) → i < count → word32 l (4 * i) < n
