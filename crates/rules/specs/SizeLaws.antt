-- No change of the books changes their length, and registering none of the pool's.
use Rattle.std.specs.Prelude.{ℕ, zero, suc, ◌+◌, ◌*◌, ◌≤◌, ◌≡◌, refl, ltb}
use Rattle.std.proofs.Common.{◌∙◌, ltb-false}
use mathlib.Core.List.{List}
use Rattle.std.proofs.Math.ListN.{length}
use Rattle.search.specs.Cases.{by_cond}
use Rattle.words.specs.WordLaws.{length-with_word32}
use Rattle.books.specs.declared.Entry.{Entry}
use Rattle.books.specs.Entry.{used_of, place, entry_of, with_entry, is_free}
use Rattle.books.specs.EntryLaws.{length-with_entry}
use Rattle.words.specs.Word.{word32}
use Rattle.listings.specs.Listing.{over_list, no_entry, freed, taken, free_unused, with_listings, listed_one, unlisted_one, released}
use Rattle.listings.specs.ListingLaws.{length-with_used}
use Rattle.sound.specs.Change.{with_length}
use Rattle.room.specs.Room.{chosen, block_room, taken_for, opened_as, opened}
use Rattle.words.specs.RunLaws.{length-put}
use Rattle.pool.specs.RegisterLaws.{bytes_room}
use Rattle.pool.specs.Register.{RegisterOutcome, Gone, settled_at, registered, is_held, let_go}
use Rattle.std.specs.Prelude.{Result, Ok, Err}
use Rattle.room.specs.declared.Room.{Room}

module _ (s : List ℕ) (i : ℕ) where
  pub length-with_length : (v : ℕ) → length (with_length s i v) ≡ length s
  unfolding with_length
  length-with_length v = length-with_word32 s (place i + 8) v

  pub length-freed : length (freed s i) ≡ length s
  unfolding freed
  length-freed = length-with_used (with_entry s i no_entry) _ ∙ length-with_entry s i no_entry

  pub length_taken : (e : Entry) → length (taken s i e) ≡ length s
  unfolding taken
  length_taken e =
      by_cond (λ (t : List ℕ). length t ≡ length s) (ltb i (used_of s)) (λ h. length-with_entry s i e)
      (λ h. length-with_used (with_entry s i e) (i + 1) ∙ length-with_entry s i e)

  pub length-free_unused : length (free_unused s i) ≡ length s
  unfolding free_unused
  length-free_unused = by_cond (λ (t : List ℕ). length t ≡ length s) (is_free (entry_of s i)) (λ h. length-freed) (λ h. refl)

  pub length-listed_one : length (listed_one s i) ≡ length s
  unfolding listed_one with_listings
  length-listed_one = length-with_word32 s (place i + 16) _

-- what is freed if unused, behind a change that keeps the length
module _ (s : List ℕ) (i : ℕ) where
  pub length-unlisted_one : length (unlisted_one s i) ≡ length s
  unfolding unlisted_one with_listings
  length-unlisted_one =
      length-free_unused _ i
      ∙ by_cond (λ (t : List ℕ). length t ≡ length s) (ltb 0 (entry_of s i).listings) (λ h. length-with_word32 s (place i + 16) _) (λ h. refl)

  pub length-released : length (released s i) ≡ length s
  unfolding released
  length-released = length-free_unused _ i ∙ length-with_word32 s (place i + 12) 0

  pub length_let_go : length (let_go s i).books ≡ length s
  unfolding let_go
  length_let_go = by_cond (λ (o : Gone). length o.books ≡ length s) (is_held s i) (λ h. length-released) (λ h. refl)

-- a change over a list
pub length-over_list : (f : List ℕ → ℕ → List ℕ) → ((s : List ℕ) (i : ℕ) → length (f s i) ≡ length s) → (s l : List ℕ) (n : ℕ) → length (over_list f s l n) ≡ length s
unfolding over_list
length-over_list f h s l zero = refl
length-over_list f h s l (suc n) = h (over_list f s l n) (word32 l (4 * n)) ∙ length-over_list f h s l n

-- an opened block, and registered bytes
for_room : (s : List ℕ) (capacity hold listings : ℕ) (c : Result Room ℕ) → length (taken_for s capacity hold listings c).books ≡ length s
for_room s capacity hold listings (Err number) = refl
for_room s capacity hold listings (Ok r) = length_taken s r.number.0 _

pub length-opened : (s : List ℕ) (n pool capacity : ℕ) → length (opened s n pool capacity).books ≡ length s
unfolding opened opened_as
length-opened s n pool capacity = for_room s capacity 0 1 (block_room s n pool capacity)

at_room : (s p bytes : List ℕ) (capacity : ℕ) (c : Result Room ℕ) → length (settled_at s p bytes capacity c).books ≡ length s
at_room s p bytes capacity (Err number) = refl
at_room s p bytes capacity (Ok r) = length_taken s r.number.0 _

pub length-registered : (s p : List ℕ) (n : ℕ) (bytes : List ℕ) (capacity : ℕ) → length (registered s p n bytes capacity).books ≡ length s
unfolding registered
length-registered s p n bytes capacity =
    by_cond (λ (o : RegisterOutcome). length o.books ≡ length s) (ltb capacity (length bytes)) (λ h. refl)
    (λ h. at_room s p bytes capacity (chosen s n (length p) capacity))

-- registered bytes lie in the pool
placed_pool : (s p : List ℕ) (n : ℕ) (bytes : List ℕ) (capacity : ℕ) (c : Result Room ℕ) → length bytes ≤ capacity → c ≡ chosen s n (length p) capacity → length (settled_at s p bytes capacity c).pool ≡ length p
placed_pool s p n bytes capacity (Err number) h e = refl
placed_pool s p n bytes capacity (Ok r) h e = length-put r.start bytes p (bytes_room s p n bytes capacity h e refl)

pub pool-registered : (s p : List ℕ) (n : ℕ) (bytes : List ℕ) (capacity : ℕ) → length (registered s p n bytes capacity).pool ≡ length p
unfolding registered
pool-registered s p n bytes capacity =
    by_cond (λ (o : RegisterOutcome). length o.pool ≡ length p) (ltb capacity (length bytes)) (λ h. refl)
    (λ h. placed_pool s p n bytes capacity (chosen s n (length p) capacity) (ltb-false capacity (length bytes) h) refl)
