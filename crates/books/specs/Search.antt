-- The lowest free number, and the lowest start where a capacity overlaps no live buffer.
use Rattle.std.specs.Prelude.{ℕ, zero, suc, ◌+◌, ◌-◌, Bool, not, cond, List}
use Rattle.std.specs.Prelude.{Option, None, Some}
use Rattle.search.specs.First.{first}
use Rattle.search.specs.Every.{every}
use Rattle.books.specs.declared.Entry.{Entry}
use Rattle.books.specs.Entry.{entry_of, used_of, is_free_at, occupies}
use Rattle.counts.specs.declared.BufferNumber.{BufferNumber}

-- the answers as the code gives them
abbrev pub as_found : Option ℕ → Option BufferNumber
as_found None = None
as_found (Some i) = Some (record { 0 = i })

abbrev pub as_gap : Option ℕ → Option ℕ
as_gap None = None
as_gap (Some at) = Some at

-- 01: "gets the lowest free number": the lowest below n
unfoldable pub lowest_free : List ℕ → ℕ → Option BufferNumber
lowest_free s n = as_found (first (is_free_at s) n)

-- the `size` bytes from `at` on are clear: no buffer in use occupies one of them
unfoldable pub clear_at : List ℕ → ℕ → ℕ → Bool
clear_at s size at = every (λ i. not (occupies (entry_of s i) at size)) (used_of s)

-- 01: "A buffer occupies its capacity at the lowest start where it overlaps no other." within the pool
unfoldable pub lowest_gap : List ℕ → ℕ → ℕ → Option ℕ
lowest_gap s pool size = as_gap (first (clear_at s size) (pool + 1 - size))

-- for the code: the end of a buffer that is in the way, else the start itself; and the start moved past the first i buffers
unfoldable pub past_entry : Entry → ℕ → ℕ → ℕ
past_entry e at size = cond (occupies e at size) (e.start + e.capacity.0) at

unfoldable pub swept : List ℕ → ℕ → ℕ → ℕ → ℕ
swept s size at zero = at
swept s size at (suc i) = past_entry (entry_of s i) (swept s size at i) size

abbrev pub swept_of : List ℕ → ℕ → ℕ → ℕ
swept_of s size at = swept s size at (used_of s)
