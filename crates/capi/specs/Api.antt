-- What each call of the C layer answers, and the bytes of every memory after it: docs/HOST.md, "Functions".
use Rattle.std.specs.Prelude.{ℕ, ◌/◌, ◌%◌, ◌≡◌, Bool, ◌&&◌, cond, List, [], length, leb, eqb}
use Rattle.words.specs.Run.{lay}
use Rattle.pool.specs.Register.{refusal_of}
use Rattle.state.specs.declared.BatchCoalescer.{BatchCoalescer}
use Rattle.state.specs.declared.RowAnswer.{RowAnswer}
use Rattle.state.specs.World.{World, world}
use Rattle.rules.specs.Batch.{Batch}
use Rattle.rules.specs.Ranges.{fits_set_up}
use Rattle.rules.specs.Calls.{Answered, Wanted, set_up_call, push_call, finish_call, drop_call, register_call, let_go_call, read_row, row_refusal, buffer_number_call, buffer_call, limit_of, buffered_count, has_completed, is_empty}
use Rattle.codes.specs.declared.Coded.{Coded}
use Rattle.codes.specs.Code.{state_bytes, limit_in, limited, decoded}
use Rattle.crossing.specs.Cross.{kept_as, pair, number_in, limit_pair, row_bytes, words_from}

-- ---- what is said

-- the four memories as bytes, the state coded
pub record Memory : Type 0 where
  pub state : List ℕ
  pub slots : List ℕ
  pub pool : List ℕ
  pub books : List ℕ

abbrev pub memory : List ℕ → List ℕ → List ℕ → List ℕ → Memory
memory state slots pool books = record { state = state; slots = slots; pool = pool; books = books }

-- an answer, and the memories that go with it
pub record Said : Type 0 where
  pub answer : ℕ
  pub memory : Memory

abbrev pub said : ℕ → Memory → Said
said answer m = record { answer = answer; memory = m }

-- an answer, and the bytes of the one memory that a call may change
pub record Told : Type 0 where
  pub answer : ℕ
  pub bytes : List ℕ

abbrev pub told : ℕ → List ℕ → Told
told answer bytes = record { answer = answer; bytes = bytes }

-- an answer is the number of the refusal or 0; or both, that number in the upper 32 bits and a value in the lower
pub data Form : Type 0 where
  number : Form
  both : Form

abbrev pub in_form : Form → ℕ → ℕ → ℕ
in_form number n v = n
in_form both n v = pair n v

-- ---- 01's calls: the number of the refusal or 0, a value, and the world

pub record Given : Type 0 where
  pub number : ℕ
  pub value : ℕ
  pub world : World

abbrev pub given : Answered → Given
given a = record { number = a.number; value = 0; world = a.world }

-- 01: "Push, step by step"
unfoldable pub pushing : Batch → World → Given
pushing b w = given (push_call w b)

-- 01: "Finishing with 0 buffered does nothing. Otherwise each column's open block joins its list and the slot is queued."
unfoldable pub finishing : World → Given
finishing w = given (finish_call w)

-- 01: "dropping answers its row count, and 0 on an empty queue"
unfoldable pub dropping : World → Given
dropping w = record { number = (drop_call w).number; value = (drop_call w).rows; world = (drop_call w).world }

-- 01: "The caller registers bytes with a capacity not below their length, gets the lowest free number and the caller's hold"
unfoldable pub registering : List ℕ → ℕ → World → Given
registering bytes capacity w =
    record {
      number = refusal_of (register_call w bytes capacity).answer;
      value = number_in (register_call w bytes capacity).answer;
      world = (register_call w bytes capacity).world;
    }

-- 01: ".. and may let go"
unfoldable pub letting_go : ℕ → World → Given
letting_go i w = given (let_go_call w i)

-- ---- the same on bytes

-- the world that bytes hold, whether they code its state or not
abbrev pub world_in : Memory → World
world_in m = world (decoded m.state).state m.slots m.pool m.books

-- an answer in its form, with the state coded anew where the call was not refused. 01: "Each returns its number .. and changes nothing"
unfoldable pub coded : Form → List ℕ → Given → Said
coded form b g =
    said (in_form form g.number g.value)
    (memory (kept_as g.number g.world.state b) g.world.slots g.world.pool g.world.books)

-- the refusal of bytes that do not code the state they hold: 1 is tested on that state as on any, and only then they are 14. Bytes that are not 304
-- hold none, and are 1. 01: "Every call after set-up tests 1, then 14"
unfoldable pub uncoded : Memory → ℕ
uncoded m = cond (fits_set_up (world_in m)) (decoded m.state).number 1

-- bytes that code a state; and those that code none, with the refusal of a call on them
abbrev pub Codes : List ℕ → BatchCoalescer → Type 0
Codes b s = ◌≡◌ {A = Coded} (record { number = 0; state = s }) (decoded b)

pub record CodesNone (m : Memory) (n : ℕ) : Type 0 where
  pub none : (decoded m.state).number ≡ 0 → ⊥
  pub refusal_is : n ≡ uncoded m

-- a call on bytes: those that code no state are refused, and nothing changes
unfoldable pub called : Form → (World → Given) → Memory → Said
called form f m =
    cond (eqb (decoded m.state).number 0) (coded form m.state (f (world_in m))) (said (in_form form (uncoded m) 0) m)

-- set-up: of a state of 304 bytes, with whole words as kinds. All else that is wrong is 01's refusal, with the same number
abbrev pub asked_for : ℕ → ℕ → ℕ → ℕ → ℕ → List ℕ → ℕ → Wanted
asked_for target rows queue lists numbers kinds pool =
    record {
      target = target;
      rows = rows;
      queue = queue;
      kinds = words_from kinds 0 (length kinds / 4);
      lists = lists;
      numbers = numbers;
      pool = pool;
    }

-- what the layer itself tests before it asks: lengths that 01's set-up has no number for
unfoldable pub askable : ℕ → ℕ → ℕ → Bool
askable state kinds pool = eqb state state_bytes && (leb kinds 64 && (eqb (kinds % 4) 0 && leb pool 4294967295))

-- 01: "Set-up empties state and books, sets no limit, and changes no slot or pool byte."; 1: "set-up outside its bounds, or lent memory not of the
-- set-up lengths"
unfoldable pub created : Wanted → List ℕ → Memory → Said
created a kinds m =
    cond (eqb (length m.state) state_bytes && eqb (length kinds % 4) 0)
    (coded number m.state (given (set_up_call a m.slots m.pool m.books)))
    (said 1 m)

-- ---- reads

-- the number beside the read of a buffer; the read, its bytes as far as they go
unfoldable pub buffer_number : Memory → ℕ → ℕ
buffer_number m i = cond (eqb (decoded m.state).number 0) (buffer_number_call (world_in m) i) (uncoded m)

unfoldable pub part_in : Memory → ℕ → List ℕ
part_in m i = cond (eqb (decoded m.state).number 0) (buffer_call (world_in m) i) []

-- 01: "Reading a buffer hands back the part of the pool it fills"; across C its bytes are copied to the front of `out`
unfoldable pub buffer_read : Memory → ℕ → List ℕ → Told
buffer_read m i out = told (length (part_in m i)) (lay 0 (part_in m i) out)

-- row i of column c of the front batch, in 20 bytes
unfoldable pub row_in : Memory → ℕ → ℕ → RowAnswer
row_in m c i =
    cond (eqb (decoded m.state).number 0) (read_row (world_in m) c i) (RowAnswer.Refused (uncoded m))

-- 01: "Reading a row answers by cases"; 1 where `out` is not of 20 bytes
unfoldable pub row_read : Memory → ℕ → ℕ → List ℕ → Told
row_read m c i out =
    cond (eqb (length out) 20) (told (row_refusal (row_in m c i)) (row_bytes (row_in m c i) out)) (told 1 out)

-- ---- the state alone. 01: these calls "work on the state alone and refuse nothing": they take 304 bytes as they are. Other bytes are no state:
-- the setter answers 1, and the reads answer those of a state of zeros

-- set_biggest_coalesce_batch_size: a flag and the rows. The limit's words change, and nothing else
unfoldable pub limit_set : ℕ → ℕ → List ℕ → Told
limit_set flag rows b = cond (eqb (length b) state_bytes) (told 0 (limited (limit_in flag rows) b)) (told 1 b)

-- biggest_coalesce_batch_size
unfoldable pub limit_read : List ℕ → ℕ
limit_read b = limit_pair (limit_of (decoded b).state)

-- get_buffered_rows, has_completed_batch, is_empty
unfoldable pub rows_buffered : List ℕ → ℕ
rows_buffered b = buffered_count (decoded b).state

unfoldable pub completed_flag : List ℕ → ℕ
completed_flag b = cond (has_completed (decoded b).state) 1 0

unfoldable pub empty_flag : List ℕ → ℕ
empty_flag b = cond (is_empty (decoded b).state) 1 0
