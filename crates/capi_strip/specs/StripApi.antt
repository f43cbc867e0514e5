-- The player strip's calls on bytes: the refusal in the upper half of the answer, the rows in the lower; the strip's bytes and the rows' answers beside it.
use Rattle.std.specs.Prelude.{ℕ, cond, List, eqb}
use Rattle.state.specs.World.{World}
use Rattle.codes.specs.Code.{decoded}
use Rattle.crossing.specs.Cross.{kept_as, pair}
use Rattle.player_strip.specs.StripCall.{ReadAnswer, read_call, take_leaves}
use Rattle.capi.specs.Api.{Memory, memory, world_in, uncoded}

-- ---- a read: it changes the strip and the answers alone

pub record StripSaid : Type 0 where
  pub answer : ℕ
  pub strip : List ℕ
  pub numbers : List ℕ

abbrev pub strip_said : ℕ → List ℕ → List ℕ → StripSaid
strip_said answer strip numbers = record { answer = answer; strip = strip; numbers = numbers }

abbrev pub read_said : ReadAnswer → StripSaid
read_said a = strip_said (pair a.number a.rows) a.strip a.numbers

-- bytes that code no state are refused, and nothing changes
unfoldable pub strip_read : Memory → List ℕ → List ℕ → StripSaid
strip_read m strip numbers =
    cond (eqb (decoded m.state).number 0) (read_said (read_call (world_in m) strip numbers)) (strip_said (pair (uncoded m) 0) strip numbers)

-- ---- a take: the memories too, as a drop leaves them

pub record TakenSaid : Type 0 where
  pub answer : ℕ
  pub memory : Memory
  pub strip : List ℕ
  pub numbers : List ℕ

abbrev pub taken_said : ℕ → Memory → List ℕ → List ℕ → TakenSaid
taken_said answer m strip numbers = record { answer = answer; memory = m; strip = strip; numbers = numbers }

-- the memories after a take of the world w, which the bytes b code: the state coded anew where it was not refused
unfoldable pub taken_memory : List ℕ → World → ℕ → World → Memory
taken_memory b w number v = memory (kept_as number v.state b) w.slots w.pool v.books

unfoldable pub strip_taken : Memory → List ℕ → List ℕ → TakenSaid
strip_taken m strip numbers =
    let w = world_in m in
    let a = read_call w strip numbers in
    cond (eqb (decoded m.state).number 0)
    (taken_said (pair a.number a.rows) (taken_memory m.state w a.number (take_leaves w strip numbers)) a.strip a.numbers)
    (taken_said (pair (uncoded m) 0) m strip numbers)
