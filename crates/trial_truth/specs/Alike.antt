-- Books out of which the same number and the same room are chosen.
use Rattle.std.specs.Prelude.{ℕ, ◌<◌, ◌≡◌, true, false, List}
use Rattle.books.specs.Entry.{used_of, entry_of, is_free, is_free_at}

-- as many of the n numbers are in use, the same are free, with the same entries, and those that are not lie where they lie
pub record Alike (s t : List ℕ) (n : ℕ) : Type 0 where
  pub used : used_of t ≡ used_of s
  pub free : (k : ℕ) → k < used_of s → is_free (entry_of t k) ≡ is_free (entry_of s k)
  pub start : (k : ℕ) → k < used_of s → is_free (entry_of s k) ≡ false → (entry_of t k).start ≡ (entry_of s k).start
  pub vacant : (k : ℕ) → k < n → is_free_at s k ≡ true → entry_of t k ≡ entry_of s k
  pub capacity : (k : ℕ) → k < used_of s → is_free (entry_of s k) ≡ false → (entry_of t k).capacity.0 ≡ (entry_of s k).capacity.0
