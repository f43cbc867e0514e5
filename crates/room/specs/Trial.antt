-- A trial: what its end makes of the books.
use Rattle.std.specs.Prelude.{ℕ, zero, suc, Bool, cond, List, eqb}
use Rattle.books.specs.declared.Entry.{Entry}
use Rattle.books.specs.Entry.{used_of, entry_of, with_entry}
use Rattle.listings.specs.Listing.{no_entry, with_used}

-- an entry that a trial marked: its hold is 2
unfoldable pub is_trial : Entry → Bool
is_trial e = eqb e.hold 2

-- the entry of number i zero if it is marked
unfoldable pub wiped_of : List ℕ → ℕ → List ℕ
wiped_of s i = cond (is_trial (entry_of s i)) (with_entry s i no_entry) s

-- so the first i numbers
unfoldable pub wiped : List ℕ → ℕ → List ℕ
wiped s zero = s
wiped s (suc i) = wiped_of (wiped s i) i

-- every number in use, and the numbers in use as they were
unfoldable pub untried : List ℕ → ℕ → List ℕ
untried s used = with_used (wiped s (used_of s)) used
