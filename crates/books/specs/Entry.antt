-- An entry of the books: five words for each buffer number, behind the word that says how many numbers are in use.
use Rattle.std.specs.Prelude.{ℕ, ◌+◌, ◌*◌, max, min, Bool, true, ◌&&◌, not, cond, List, ltb, eqb}
use Rattle.words.specs.Word.{word32, with_word32}
use Rattle.books.specs.declared.Entry.{Entry}

-- one more than the highest number in use: every number from here on is free
unfoldable pub used_of : List ℕ → ℕ
used_of s = word32 s 0

-- where the entry of number i begins
abbrev pub place : ℕ → ℕ
place i = 4 + 20 * i

-- the entry of number i. 01: "each has start, capacity, length, a caller's hold (yes or no) and a count of listings"
unfoldable pub entry_of : List ℕ → ℕ → Entry
entry_of s i =
    record {
      start = word32 s (place i);
      capacity = record { 0 = word32 s (place i + 4) };
      length = record { 0 = word32 s (place i + 8) };
      hold = word32 s (place i + 12);
      listings = word32 s (place i + 16);
    }

-- the books with e as the entry of number i, every other byte as it was
unfoldable pub with_entry : List ℕ → ℕ → Entry → List ℕ
with_entry s i e =
    with_word32
    (with_word32
    (with_word32 (with_word32 (with_word32 s (place i) e.start) (place i + 4) e.capacity.0) (place i + 8) e.length.0)
    (place i + 12)
    e.hold)
    (place i + 16)
    e.listings

-- 01: "With no hold and no listing left it is free"
unfoldable pub is_free : Entry → Bool
is_free e = eqb e.hold 0 && eqb e.listings 0

-- the number i is free: not in use, or its entry says so
unfoldable pub is_free_at : List ℕ → ℕ → Bool
is_free_at s i = cond (ltb i (used_of s)) (is_free (entry_of s i)) true

-- the n bytes from a on and the m bytes from b on have a byte in common. 0 bytes share nothing
unfoldable pub share_byte : ℕ → ℕ → ℕ → ℕ → Bool
share_byte a n b m = ltb (max a b) (min (a + n) (b + m))

-- a live buffer occupies a byte of the `size` bytes from `at` on. 01: "A buffer occupies its capacity"
unfoldable pub occupies : Entry → ℕ → ℕ → Bool
occupies e at size = not (is_free e) && share_byte e.start e.capacity.0 at size
