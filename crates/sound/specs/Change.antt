-- Books that differ in one entry, and the entries that the changes make.
use Rattle.std.specs.Prelude.{ℕ, ◌+◌, ◌*◌, ◌-◌, ◌≤◌, ◌≡◌, ◌≢◌, cond, List, length, ltb}
use Rattle.words.specs.Word.{with_word32}
use Rattle.words.specs.WordLaws.{Bytes}
use Rattle.words.specs.Frame.{Framed}
use Rattle.books.specs.declared.Entry.{Entry}
use Rattle.books.specs.Entry.{place, entry_of, is_free}
use Rattle.listings.specs.Listing.{no_entry, with_listings}

-- bytes with room for n entries, whose numbers fit 16 bits
pub record Roomy (s : List ℕ) (n : ℕ) : Type 0 where
  pub bytes : Bytes s
  pub room : 4 + 20 * n ≤ length s
  pub few : n ≤ 65536

-- t are the books s with the entry e at number i: every other entry, and every byte behind the n entries, is as it was
pub record Changed (s t : List ℕ) (n i : ℕ) (e : Entry) : Type 0 where
  pub framed : Framed 0 (4 + 20 * n) s t
  pub bytes : Bytes t
  pub same : entry_of t i ≡ e
  pub other : (k : ℕ) → k ≢ i → entry_of t k ≡ entry_of s k

-- the entry with another length, another hold, another count of listings
abbrev pub length_as : Entry → ℕ → Entry
length_as e v = record { start = e.start; capacity = e.capacity; length = record { 0 = v }; hold = e.hold; listings = e.listings }

abbrev pub hold_as : Entry → ℕ → Entry
hold_as e v = record { start = e.start; capacity = e.capacity; length = e.length; hold = v; listings = e.listings }

abbrev pub listings_as : Entry → ℕ → Entry
listings_as e v = record { start = e.start; capacity = e.capacity; length = e.length; hold = e.hold; listings = v }

-- the entry, or a zero one if it is free
unfoldable pub or_free : Entry → Entry
or_free e = cond (is_free e) no_entry e

-- the books with the length v at number i
unfoldable pub with_length : List ℕ → ℕ → ℕ → List ℕ
with_length s i v = with_word32 s (place i + 8) v

-- the books with one listing of number i less, if it has one: what unlisted_one then frees if unused
abbrev pub with_less : List ℕ → ℕ → List ℕ
with_less s i = cond (ltb 0 (entry_of s i).listings) (with_listings s i ((entry_of s i).listings - 1)) s
