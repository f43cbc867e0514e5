-- A whole list behind that of a column of the slot being filled: what is asked, and what is left.
use Rattle.std.specs.Prelude.{ℕ, ◌+◌, ◌*◌, ◌≤◌, ◌<◌, ◌≡◌, false, List, [], length}
use Rattle.listings.specs.Listing.{Listed}
use Rattle.state.specs.declared.BatchCoalescer.{BatchCoalescer}
use Rattle.state.specs.World.{world}
use Rattle.state.specs.Layout.{is_views, slots_length, books_length, list_length}
use Rattle.layout.specs.Few.{Few}
use Rattle.rules.specs.Batch.{Batch, record_of, list_of}
use Rattle.rules.specs.Views.{list_attached}

-- a whole list may be put behind that of column c
pub record Listable (s : BatchCoalescer) (slots books : List ℕ) (b : Batch) (c : ℕ) : Type 0 where
  pub few : Few s
  pub place : s.place ≤ s.queue
  pub column : c < s.columns
  pub slots_are : length slots ≡ slots_length s
  pub books_are : length books ≡ books_length s
  pub inside : (record_of b c).list + 4 * (record_of b c).count ≤ length b.body
  pub listed : Listed books s.numbers (list_of b c) (record_of b c).count
  pub room : list_length (world s [] [] books) s.place c + (record_of b c).count ≤ s.lists
  pub plain : is_views s c ≡ false → (record_of b c).count ≡ 0
  pub empty : is_views s c ≡ false → list_length (world s [] [] books) s.place c ≡ 0

-- the list of column c is attached
pub record Attaches (s : BatchCoalescer) (slots books : List ℕ) (b : Batch) (c : ℕ) (slots' books' : List ℕ) : Type 0 where
  pub is : (pool : List ℕ) → list_attached (world s slots pool books) b c ≡ world s slots' pool books'
