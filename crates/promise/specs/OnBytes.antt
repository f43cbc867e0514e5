-- A history on bytes: calls of the C layer one behind another, each with what it answered, as its contract says it.
use Rattle.std.specs.Prelude.{ℕ, ◌/◌, ◌%◌, ◌≡◌, ◌≢◌, List, [], ◌∷◌, ◌++◌, eqb}
use Rattle.words.specs.WordLaws.{Bytes}
use Rattle.state.specs.World.{World}
use Rattle.state.specs.Rows.{Row}
use Rattle.rules.specs.Batch.{Batch, batch_rows}
use Rattle.rules.specs.Calls.{Wanted}
use Rattle.codes.specs.Code.{limit_in, decoded}
use Rattle.capi.specs.Api.{Memory, memory, said, told, number, both, pushing, finishing, dropping, registering, letting_go, world_in, called, created, limit_set}
use Rattle.history.specs.Call.{OfBytes, Call, push, finish, drop, register, let_go, limit, read, if_done, front}

-- bytes that hold a world: they are bytes that code its state, and slots, pool and books are its own
pub record HoldsWorld (m : Memory) (w : World) : Type 0 where
  pub bytes : Bytes m.state
  pub coded : (decoded m.state).number ≡ 0
  pub is : world_in m ≡ w

-- ---- one call. The crate `sent` has a function for each, that makes the call and whose contract this is

-- a call of the C layer: what it answers, and the memories after it, their state of bytes, as every slice of the machine is
pub data Sent (m : Memory) : Call → ℕ → Memory → Type 0 where
  -- pw_push_batch
  sent_push : {b : Batch} (bytes : OfBytes b) {r : ℕ} {m' : Memory} → said r m' ≡ called number (pushing b) m → Bytes m'.state → Sent m (push b bytes) r m'
  -- pw_finish_buffered_batch
  sent_finish : {r : ℕ} {m' : Memory} → said r m' ≡ called number finishing m → Bytes m'.state → Sent m finish r m'
  -- pw_next_completed_batch
  sent_drop : {r : ℕ} {m' : Memory} → said r m' ≡ called both dropping m → Bytes m'.state → Sent m drop r m'
  -- pw_register_buffer
  sent_register : {bytes : List ℕ} {capacity r : ℕ} {m' : Memory} → said r m' ≡ called both (registering bytes capacity) m → Bytes m'.state → Sent m (register bytes capacity) r m'
  -- pw_let_go
  sent_let_go : {k r : ℕ} {m' : Memory} → said r m' ≡ called number (letting_go k) m → Bytes m'.state → Sent m (let_go k) r m'
  -- pw_set_biggest_coalesce_batch_size
  sent_limit : (flag rows : ℕ) {r : ℕ} {state : List ℕ} → told r state ≡ limit_set flag rows m.state → Bytes state → Sent m (limit (limit_in flag rows)) r (memory state m.slots m.pool m.books)
  -- the reads: nothing of the four is lent to be changed
  sent_read : {r : ℕ} → Bytes m.state → Sent m read r m

-- a push, its body of bytes
pub record SentPush (m : Memory) (b : Batch) (r : ℕ) (m' : Memory) : Type 0 where
  pub body : OfBytes b
  pub sent : Sent m (push b body) r m'

-- the setter of the limit, whatever memories there are beside the state
pub record SentLimit (flag rows : ℕ) (state : List ℕ) (r : ℕ) (state' : List ℕ) : Type 0 where
  pub sent : (slots pool books : List ℕ) → Sent (memory state slots pool books) (limit (limit_in flag rows)) r (memory state' slots pool books)

-- pw_new; the slots that it was lent are of bytes too
pub record SentNew (a : Wanted) (kinds : List ℕ) (m : Memory) (r : ℕ) (m' : Memory) : Type 0 where
  pub is : said r m' ≡ created a kinds m
  pub bytes : Bytes m'.state
  pub slots : Bytes m.slots

-- ---- a history

-- the two numbers of an answer that has two
abbrev pub upper : ℕ → ℕ
upper r = r / 4294967296

abbrev pub lower : ℕ → ℕ
lower r = r % 4294967296

-- the rows of a push that answered 0
abbrev pub accepted_by : Memory → Call → ℕ → List Row
accepted_by m (push b bytes) r = if_done r (batch_rows (world_in m) b)
accepted_by m finish r = []
accepted_by m drop r = []
accepted_by m (register bytes capacity) r = []
accepted_by m (let_go k) r = []
accepted_by m (limit l) r = []
accepted_by m read r = []

-- the batch in front of a drop that answered rows
abbrev pub taken_by : Memory → Call → ℕ → List (List Row)
taken_by m (push b bytes) r = []
taken_by m finish r = []
taken_by m drop r = front (world_in m) (upper r) (eqb (lower r) 0)
taken_by m (register bytes capacity) r = []
taken_by m (let_go k) r = []
taken_by m (limit l) r = []
taken_by m read r = []

-- the memories after calls; the rows accepted and the batches taken, by what was answered
pub record DidBytes : Type 0 where
  pub memory : Memory
  pub accepted : List Row
  pub taken : List (List Row)

-- the refusal in an answer, and 0 where there is none
abbrev pub refused_by : Call → ℕ → ℕ
refused_by (push b bytes) r = r
refused_by finish r = r
refused_by drop r = upper r
refused_by (register bytes capacity) r = upper r
refused_by (let_go k) r = r
refused_by (limit l) r = r
refused_by read r = 0

-- calls one behind another, each on what the one before it left; and among them any that were refused and were handed any other memories l, lent any part
-- of the live ones: `live` makes up the live memories from what was lent
pub data Sends : Memory → List Call → DidBytes → Type 0 where
  none : {m : Memory} → Sends m [] (record { memory = m; accepted = []; taken = [] })
  next : {m n : Memory} {c : Call} {cs : List Call} {r : ℕ} {y : DidBytes} → Sent m c r n → Sends n cs y → Sends m (c ∷ cs) (record { memory = y.memory; accepted = accepted_by m c r ++ y.accepted; taken = taken_by m c r ++ y.taken })
  astray : {m l n : Memory} {c : Call} {cs : List Call} {r : ℕ} {y : DidBytes} (live : Memory → Memory) → live l ≡ m → Sent l c r n → refused_by c r ≢ 0 → Sends (live n) cs y → Sends m cs (record { memory = y.memory; accepted = accepted_by l c r ++ y.accepted; taken = taken_by l c r ++ y.taken })
