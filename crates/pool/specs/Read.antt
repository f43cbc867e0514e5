-- Reading a buffer, and the ranges of 14 for the books.
use Rattle.std.specs.Prelude.{ℕ, ◌+◌, Bool, ◌&&◌, not, cond, List, [], length, ltb, leb}
use Rattle.search.specs.Every.{every}
use Rattle.words.specs.Run.{read}
use Rattle.books.specs.declared.Entry.{Entry}
use Rattle.books.specs.Entry.{used_of, entry_of, is_free}

-- number i is a buffer that can be read: in use, live, and filled within the pool
unfoldable pub is_there : List ℕ → List ℕ → ℕ → Bool
is_there s p i =
    ltb i (used_of s)
    && (not (is_free (entry_of s i)) && leb ((entry_of s i).start + (entry_of s i).length.0) (length p))

-- 01: "a call beside it, on the same inputs, gives the number of the refusal, and 0 exactly when the read is not refused"
unfoldable pub read_refusal : List ℕ → List ℕ → ℕ → ℕ
read_refusal s p i = cond (is_there s p i) 0 13

-- 01: "Reading a buffer hands back the part of the pool it fills"; "an empty part on refusal"
unfoldable pub part_of : List ℕ → List ℕ → ℕ → List ℕ
part_of s p i = cond (is_there s p i) (read (entry_of s i).start (entry_of s i).length.0 p) []

-- 01, 14: "a buffer past the pool or longer than its capacity"; and a hold that is neither yes nor no
unfoldable pub fits_in : ℕ → Entry → Bool
fits_in p e = leb (e.start + e.capacity.0) p && (leb e.length.0 e.capacity.0 && leb e.hold 1)

-- every buffer in use is in range, and no more numbers are in use than there are
unfoldable pub in_range : List ℕ → ℕ → ℕ → Bool
in_range s n p = leb (used_of s) n && every (λ i. fits_in p (entry_of s i)) (used_of s)
