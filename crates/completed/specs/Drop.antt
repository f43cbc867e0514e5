-- Dropping the front batch: what it makes of the books, list by list and count by count; what that asks; and the contracts.
use Rattle.std.specs.Prelude.{ℕ, zero, suc, ◌+◌, ◌*◌, ◌-◌, ◌≤◌, ◌<◌, ◌≡◌, List, [], length}
use Rattle.words.specs.Word.{word32}
use Rattle.words.specs.Run.{read}
use Rattle.words.specs.WordLaws.{Bytes}
use Rattle.books.specs.Entry.{used_of}
use Rattle.listings.specs.Listing.{unlisted_one, over_list}
use Rattle.tallies.specs.Tally.{with_tally}
use Rattle.state.specs.declared.BatchCoalescer.{BatchCoalescer}
use Rattle.state.specs.World.{world}
use Rattle.state.specs.Layout.{tally, list_place, slots_length, books_length, rows_in, list_length, queued_slot}
use Rattle.layout.specs.Few.{Few}
use Rattle.rules.specs.Steps.{with_counts}
use Rattle.rules.specs.Calls as calls
use Rattle.completed.specs.declared.Dropped.{Dropped}

-- `list_dropped` on the books alone, and so for the first c columns
unfoldable pub list_off : BatchCoalescer → List ℕ → List ℕ → ℕ → ℕ → List ℕ
list_off s slots books slot c =
    over_list unlisted_one books (read (list_place s slot c) (4 * list_length (world s [] [] books) slot c) slots)
    (list_length (world s [] [] books) slot c)

unfoldable pub lists_off : BatchCoalescer → List ℕ → List ℕ → ℕ → ℕ → List ℕ
lists_off s slots books slot zero = books
lists_off s slots books slot (suc c) = list_off s slots (lists_off s slots books slot c) slot c

-- `uncounted` on the books alone: the first k counts of a slot zero
unfoldable pub counts_off : BatchCoalescer → List ℕ → ℕ → ℕ → List ℕ
counts_off s books slot zero = books
counts_off s books slot (suc k) = with_tally (counts_off s books slot k) (tally s slot k) 0

-- what dropping the lists of a slot asks: memories of their lengths, and lists in the slots, of numbers below N
pub record Droppable (s : BatchCoalescer) (slots books : List ℕ) (slot : ℕ) : Type 0 where
  pub few : Few s
  pub slots_are : length slots ≡ slots_length s
  pub books_are : length books ≡ books_length s
  pub in_slots_lem : slot ≤ s.queue
  pub bytes : Bytes books
  pub used : used_of books ≤ s.numbers
  pub lists : (c : ℕ) → c < s.columns → list_place s slot c + 4 * list_length (world s [] [] books) slot c ≤ length slots
  pub numbers : (c i : ℕ) → c < s.columns → i < list_length (world s [] [] books) slot c → word32 slots (list_place s slot c + 4 * i) < s.numbers

-- the contracts: behind the tests, where there is a front batch; and of the call
pub record DropsFront (s : BatchCoalescer) (slots books books' : List ℕ) (r : Dropped) : Type 0 where
  pub state_is : r.state ≡ with_counts s s.place (s.queued - 1) s.buffered.0
  pub number_is : r.number ≡ 0
  pub rows_are : r.rows.0 ≡ rows_in (world s [] [] books) (queued_slot s 0)
  pub books_are : books' ≡ counts_off s (lists_off s slots books (queued_slot s 0) s.columns) (queued_slot s 0) (1 + s.columns)

pub record Drops (d : calls.Dropped) (books' : List ℕ) (r : Dropped) : Type 0 where
  pub state_is : r.state ≡ d.world.state
  pub number_is : r.number ≡ d.number
  pub rows_are : r.rows.0 ≡ d.rows
  pub books_are : books' ≡ d.world.books
