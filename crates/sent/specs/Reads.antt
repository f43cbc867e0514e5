-- The reads of the C layer on bytes that hold a world: each answers 01's read of that world, and leaves the memories as they were.
use Rattle.std.specs.Prelude.{ℕ, ◌≡◌, cond, List, length}
use Rattle.words.specs.Run.{lay}
use Rattle.state.specs.World.{World}
use Rattle.rules.specs.Calls.{read_row, row_refusal, buffer_number_call, buffer_call, limit_of, buffered_count, has_completed, is_empty}
use Rattle.crossing.specs.Cross.{limit_pair, row_bytes}
use Rattle.fronts.specs.Front.{front_call}
use Rattle.capi.specs.Api.{Memory, memory, told}
use Rattle.capi_front.specs.Front.{front_told}
use Rattle.history.specs.Call.{read}
use Rattle.promise.specs.OnBytes.{HoldsWorld, Sent}

-- pw_read_row: the number and the five words of the row's answer, in 20 bytes
pub record ReadsRow (m : Memory) (c i : ℕ) (out : List ℕ) (r : ℕ) (out' : List ℕ) : Type 0 where
  pub sent : Sent m read r m
  pub number_is : (w : World) → HoldsWorld m w → length out ≡ 20 → r ≡ row_refusal (read_row w c i)
  pub words_are : (w : World) → HoldsWorld m w → length out ≡ 20 → out' ≡ row_bytes (read_row w c i) out

-- pw_read_buffer: how many bytes the buffer has, and they at the front
pub record ReadsBuffer (m : Memory) (i : ℕ) (out : List ℕ) (r : ℕ) (out' : List ℕ) : Type 0 where
  pub sent : Sent m read r m
  pub length_is : (w : World) → HoldsWorld m w → r ≡ length (buffer_call w i)
  pub bytes_are : (w : World) → HoldsWorld m w → out' ≡ lay 0 (buffer_call w i) out

-- pw_front_batch: the rows and the places of the front batch, in 512 bytes
pub record ReadsFront (m : Memory) (out : List ℕ) (r : ℕ) (out' : List ℕ) : Type 0 where
  pub sent : Sent m read r m
  pub is : (w : World) → HoldsWorld m w → told r out' ≡ front_told (front_call w out)

-- pw_buffer_refusal
pub record ReadsRefusal (m : Memory) (i r : ℕ) : Type 0 where
  pub sent : Sent m read r m
  pub is : (w : World) → HoldsWorld m w → r ≡ buffer_number_call w i

-- the reads of the state alone, whatever memories there are beside it
pub record ReadsState (state : List ℕ) (r : ℕ) (f : World → ℕ) : Type 0 where
  pub sent : (slots pool books : List ℕ) → Sent (memory state slots pool books) read r (memory state slots pool books)
  pub is : (slots pool books : List ℕ) (w : World) → HoldsWorld (memory state slots pool books) w → r ≡ f w

-- pw_biggest_coalesce_batch_size, pw_get_buffered_rows, pw_has_completed_batch, pw_is_empty
abbrev pub ReadsLimit : List ℕ → ℕ → Type 0
ReadsLimit state r = ReadsState state r (λ w. limit_pair (limit_of w.state))

abbrev pub ReadsRows : List ℕ → ℕ → Type 0
ReadsRows state r = ReadsState state r (λ w. buffered_count w.state)

abbrev pub ReadsCompleted : List ℕ → ℕ → Type 0
ReadsCompleted state r = ReadsState state r (λ w. cond (has_completed w.state) 1 0)

abbrev pub ReadsEmpty : List ℕ → ℕ → Type 0
ReadsEmpty state r = ReadsState state r (λ w. cond (is_empty w.state) 1 0)
