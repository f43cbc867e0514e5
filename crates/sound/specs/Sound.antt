-- Sound books: what holds of the entries between any two calls. No room is booked twice, and no listed number is free.
use Rattle.std.specs.Prelude.{ℕ, ◌+◌, ◌*◌, ◌-◌, ◌≤◌, ◌<◌, ◌≡◌, ◌≢◌, true, false, cond, List, length, eqb}
use Rattle.words.specs.WordLaws.{Bytes}
use Rattle.words.specs.Run.{read}
use Rattle.books.specs.Entry.{used_of, entry_of, is_free, share_byte}
use Rattle.listings.specs.Listing.{no_entry}

-- the books s are sound, for n numbers, a pool of p bytes, and count i listings of number i
pub record Sound (s : List ℕ) (n p : ℕ) (count : ℕ → ℕ) : Type 0 where
  -- they are bytes
  pub bytes : Bytes s
  -- they have room for n entries
  pub room : 4 + 20 * n ≤ length s
  -- a number fits 16 bits
  pub few : n ≤ 65536
  -- no more numbers are in use than there are
  pub used : used_of s ≤ n
  -- the last number in use is not free
  pub tight : 0 < used_of s → is_free (entry_of s (used_of s - 1)) ≡ false
  -- a number that is not in use has a zero entry
  pub beyond : (i : ℕ) → i < n → used_of s ≤ i → entry_of s i ≡ no_entry
  -- a free number has a zero entry
  pub zero : (i : ℕ) → i < n → is_free (entry_of s i) ≡ true → entry_of s i ≡ no_entry
  -- a buffer lies in the pool
  pub inside : (i : ℕ) → i < n → (entry_of s i).start + (entry_of s i).capacity.0 ≤ p
  -- a buffer is filled no further than its capacity
  pub filled : (i : ℕ) → i < n → (entry_of s i).length.0 ≤ (entry_of s i).capacity.0
  -- two buffers share no byte
  pub apart : (i j : ℕ) → i < n → j < n → i ≢ j → share_byte (entry_of s i).start (entry_of s i).capacity.0 (entry_of s j).start (entry_of s j).capacity.0 ≡ false
  -- a hold is no or yes
  pub held : (i : ℕ) → i < n → (entry_of s i).hold ≤ 1
  -- a buffer has as many listings as are counted
  pub counted : (i : ℕ) → i < n → (entry_of s i).listings ≡ count i

-- the filled bytes of number i. 01: "the part of the pool it fills"
unfoldable pub filled_bytes : List ℕ → List ℕ → ℕ → List ℕ
filled_bytes s pool i = read (entry_of s i).start (entry_of s i).length.0 pool

-- the counts with v at number i
unfoldable pub count_with : (ℕ → ℕ) → ℕ → ℕ → ℕ → ℕ
count_with count i v j = cond (eqb j i) v (count j)
