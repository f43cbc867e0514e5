-- The number and the start that a buffer gets, and what opening it makes of the books.
use Rattle.std.specs.Prelude.{ℕ, ◌≡◌, Bool, ◌&&◌, cond, List, eqb}
use Rattle.books.specs.declared.Entry.{Entry}
use Rattle.books.specs.Entry.{entry_of, is_free}
use Rattle.books.specs.Search.{lowest_free, lowest_gap}
use Rattle.listings.specs.Listing.{taken}
use Rattle.room.specs.declared.Room.{Room}
use Rattle.std.specs.Prelude.{Option, Some, None, Result, Ok, Err}
use Rattle.counts.specs.declared.BufferNumber.{BufferNumber}

-- the number of a refusal, and 0 where there is none
abbrev pub refusal_of : Result Room ℕ → ℕ
refusal_of (Ok r) = 0
refusal_of (Err number) = number

-- 01: "11 no free buffer number", then "12 no gap of the capacity wanted"
abbrev pub or_refused : Option BufferNumber → Option ℕ → Result Room ℕ
or_refused None g = Err 11
or_refused (Some k) None = Err 12
or_refused (Some k) (Some at) = Ok (record { number = k; start = at })

-- the lowest free number and the lowest start. 01: "gets the lowest free number", "at the lowest start"
unfoldable pub chosen : List ℕ → ℕ → ℕ → ℕ → Result Room ℕ
chosen s n pool capacity = or_refused (lowest_free s n) (lowest_gap s pool capacity)

-- an entry of zeros. 01: "it is free, its entry in the books is zero"
unfoldable pub is_zero : Entry → Bool
is_zero e = eqb e.start 0 && (eqb e.capacity.0 0 && (eqb e.length.0 0 && is_free e))

-- the room for a block: the same; and 14 where the free number's entry is not zero, which no history leaves (DECISIONS 11)
abbrev pub if_zero : List ℕ → Result Room ℕ → Result Room ℕ
if_zero s (Err number) = Err number
if_zero s (Ok r) = cond (is_zero (entry_of s r.number.0)) (Ok r) (Err 14)

unfoldable pub block_room : List ℕ → ℕ → ℕ → ℕ → Result Room ℕ
block_room s n pool capacity = if_zero s (chosen s n pool capacity)

-- an entry at a start, with its length, hold and listings
abbrev pub entry_at : ℕ → ℕ → ℕ → ℕ → ℕ → Entry
entry_at start capacity length hold listings =
    record {
      start = start;
      capacity = record { 0 = capacity };
      length = record { 0 = length };
      hold = hold;
      listings = listings;
    }

-- an answer, and the books that go with it
pub record Outcome : Type 0 where
  pub answer : Result Room ℕ
  pub books : List ℕ

-- the room taken for an empty buffer; a refusal changes nothing
abbrev pub taken_for : List ℕ → ℕ → ℕ → ℕ → Result Room ℕ → Outcome
taken_for s capacity hold listings (Err number) = record { answer = Err number; books = s }
taken_for s capacity hold listings (Ok r) =
    record { answer = Ok r; books = taken s r.number.0 (entry_at r.start capacity 0 hold listings) }

unfoldable pub opened_as : List ℕ → ℕ → ℕ → ℕ → ℕ → ℕ → Outcome
opened_as s n pool capacity hold listings = taken_for s capacity hold listings (block_room s n pool capacity)

-- 01: "A block opened by the port has no caller's hold."; "The open block counts as listed."
unfoldable pub opened : List ℕ → ℕ → ℕ → ℕ → Outcome
opened s n pool capacity = opened_as s n pool capacity 0 1

-- a block opened on trial: its hold is neither yes nor no, which is its mark
unfoldable pub tried : List ℕ → ℕ → ℕ → ℕ → Outcome
tried s n pool capacity = opened_as s n pool capacity 2 0

-- the contract: the answer r and the books s' are the outcome's
pub record Opens (o : Outcome) (s' : List ℕ) (r : Result Room ℕ) : Type 0 where
  pub answer_is : r ≡ o.answer
  pub books_are : s' ≡ o.books
