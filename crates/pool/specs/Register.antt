-- Registering bytes and letting a buffer go: the answer, and what each makes of books and pool.
use Rattle.std.specs.Prelude.{ℕ, ◌≡◌, Bool, ◌&&◌, not, cond, List, length, ltb, eqb}
use Rattle.words.specs.Run.{put}
use Rattle.books.specs.Entry.{used_of, entry_of}
use Rattle.listings.specs.Listing.{taken, released}
use Rattle.room.specs.declared.Room.{Room}
use Rattle.room.specs.Room.{chosen, entry_at}
use Rattle.std.specs.Prelude.{Result, Ok, Err}
use Rattle.counts.specs.declared.BufferNumber.{BufferNumber}

-- the number of a refusal, and 0 where there is none
abbrev pub refusal_of : Result BufferNumber ℕ → ℕ
refusal_of (Ok k) = 0
refusal_of (Err number) = number

-- an answer, with the books and the pool that go with it
pub record RegisterOutcome : Type 0 where
  pub answer : Result BufferNumber ℕ
  pub books : List ℕ
  pub pool : List ℕ

-- a refusal changes nothing
abbrev pub refused : List ℕ → List ℕ → ℕ → RegisterOutcome
refused s p number = record { answer = Err number; books = s; pool = p }

-- the room taken under the caller's hold, and the bytes there. 01: "Pool bytes change only where bytes are registered or
-- copied"
abbrev pub settled_at : List ℕ → List ℕ → List ℕ → ℕ → Result Room ℕ → RegisterOutcome
settled_at s p bytes capacity (Err number) = refused s p number
settled_at s p bytes capacity (Ok r) =
    record {
      answer = Ok r.number;
      books = taken s r.number.0 (entry_at r.start capacity (length bytes) 1 0);
      pool = put r.start bytes p;
    }

-- 01: "registers bytes with a capacity not below their length, gets the lowest free number and the caller's hold";
-- "Registering: 13, 11, 12."
unfoldable pub registered : List ℕ → List ℕ → ℕ → List ℕ → ℕ → RegisterOutcome
registered s p n bytes capacity =
    cond (ltb capacity (length bytes)) (refused s p 13) (settled_at s p bytes capacity (chosen s n (length p) capacity))

-- the contract: answer, books and pool are the outcome's
pub record Registers (o : RegisterOutcome) (s' p' : List ℕ) (r : Result BufferNumber ℕ) : Type 0 where
  pub answer_is : r ≡ o.answer
  pub books_are : s' ≡ o.books
  pub pool_is : p' ≡ o.pool

-- so the inner step, at a room
pub record RegistersAt (s p : List ℕ) (r : Room) (bytes : List ℕ) (capacity : ℕ) (s' p' : List ℕ) : Type 0 where
  pub books_are : s' ≡ taken s r.number.0 (entry_at r.start capacity (length bytes) 1 0)
  pub pool_is : p' ≡ put r.start bytes p

-- the caller holds number i
unfoldable pub is_held : List ℕ → ℕ → Bool
is_held s i = ltb i (used_of s) && not (eqb (entry_of s i).hold 0)

-- the number of the answer, and the books that go with it
pub record Gone : Type 0 where
  pub answer : ℕ
  pub books : List ℕ

-- 01: "13 .. letting go of a buffer, that isn't there or isn't the caller's to let go"
unfoldable pub let_go : List ℕ → ℕ → Gone
let_go s i = cond (is_held s i) (record { answer = 0; books = released s i }) (record { answer = 13; books = s })

pub record LetsGo (o : Gone) (s' : List ℕ) (r : ℕ) : Type 0 where
  pub answer_is : r ≡ o.answer
  pub books_are : s' ≡ o.books
