-- What calls of the C layer leave holds the world of their history, and what they answer is what 01's calls answer there.
use Rattle.std.specs.Prelude.{ℕ, ◌+◌, ◌*◌, ◌/◌, ◌%◌, ◌≤◌, ◌<◌, ◌^◌, ◌≡◌, ◌≢◌, Bool, true, false, ◌&&◌, cond, List, [], ◌∷◌, ◌++◌, length, get_or, eqb, ltb}
use Rattle.std.proofs.Math.Path.{refl, sym, ap}
use Rattle.std.proofs.Common.{◌∙◌, eq-eqb, ne_eqb}
use Rattle.std.specs.Prelude.{Some}
use native.Mathlib.Omega.{arith}
use Rattle.std.proofs.Math.Decide.{ℕ_discrete}
use Rattle.words.specs.WordLaws.{Bytes}
use Rattle.pool.specs.Register.{refusal_of, settled_at, registered}
use Rattle.room.specs.Room.{chosen}
use Rattle.room.specs.RoomLaws.{number_few}
use Rattle.state.specs.World.{World, world}
use Rattle.state.specs.Layout.{rows_in}
use Rattle.state.proofs.SlotLaws.{queued_in}
use Rattle.state.specs.Rows.{Row, null, joined, front_slot, taken_rows, queued_rows, buffered_rows}
use Rattle.rules.specs.Batch.{Batch, batch_rows}
use Rattle.rules.specs.Steps.{in_state, with_limit}
use Rattle.rules.specs.Calls.{Answered, RegisterAnswer, Wanted, set_up_call, push_call, finish_call, Dropped, drop_call, register_call, let_go_call, is_row, read_row, read_as}
use Rattle.rules.proofs.CallLaws.{set_up_zero, set_up_done, drop-number, drop-empty, drop-front}
use Rattle.rules.proofs.RegisterLaws.{register_steps}
use Rattle.push_safety.specs.TestedLaws.{bounds_say}
use Rattle.codes.specs.declared.Coded.{Coded}
use Rattle.codes.specs.Code.{state_bytes, code_of, limit_in, limited, decoded}
use Rattle.codes.specs.RoundLaws.{decoded-code, code_words}
use Rattle.crossing.specs.Cross.{pair, number_in}
use Rattle.capi.specs.Api.{Memory, memory, Said, said, Told, told, Form, number, both, in_form, Given, given, pushing, finishing, dropping, registering, letting_go, world_in, coded, called, created, limit_set}
use Rattle.capi.specs.ApiLaws.{decoded-length, limit_code}
use Rattle.capi.specs.ApiLaws as api
use Rattle.capi.specs.QuietLaws.{Quiet, pushing_quiet, finishing_quiet, dropping_quiet, registering_quiet, letting_go_quiet}
use Rattle.invariant.specs.Holding.{Between}
use Rattle.invariant.proofs.AloneLaws.{new_sixteen}
use Rattle.invariant.proofs.Calls.Tested.{between-tested}
use Rattle.invariant.proofs.Calls.SetUpAfter.{set_up_begins}
use Rattle.history.specs.Call.{Call, push, finish, drop, register, let_go, limit, read, Did, if_done, front, step, run}
use Rattle.history.proofs.CallLaws.{call_law}
use Rattle.history.proofs.History.{did, in_order_lem}
use Rattle.history.proofs.RowReads.{reads_taken}
use Rattle.promise.specs.OnBytes.{
  HoldsWorld,
  Sent,
  sent_push,
  sent_finish,
  sent_drop,
  sent_register,
  sent_let_go,
  sent_limit,
  sent_read,
  SentNew,
  upper,
  lower,
  accepted_by,
  taken_by,
  DidBytes,
  Sends,
  none,
  next,
  astray,
}
use Rattle.promise.proofs.RefusedLaws.{sent_nothing, nothing-accepted, nothing-taken}
use Rattle.std.specs.Prelude.{Result, Ok, Err}
use Rattle.room.specs.declared.Room.{Room}

-- ---- one call

-- a state coded anew is held by its bytes
code_holds : (v : World) → length v.state.column ≡ 16 → Bytes (code_of v.state) → HoldsWorld (memory (code_of v.state) v.slots v.pool v.books) v
code_holds v n is =
    let d = decoded-code v.state (code_words v.state n is) in
    record { bytes = is; coded = ap (λ (x : Coded). x.number) d; is = ap (λ (x : Coded). world x.state v.slots v.pool v.books) d }

coded_holds : (form : Form) (b : List ℕ) (g : Given) → g.number ≡ 0 → length g.world.state.column ≡ 16 → Bytes (coded form b g).memory.state → HoldsWorld (coded form b g).memory g.world
unfolding coded
coded_holds form b g z n is = rw (eq-eqb g.number 0 z) (code_holds g.world n (rw (eq-eqb g.number 0 z) at is))

module _ (f : World → Given) {m : Memory} {w : World} (h : HoldsWorld m w) where
  coded_is : (form : Form) → called form f m ≡ coded form m.state (f w)
  unfolding called
  coded_is form = rw (eq-eqb (decoded m.state).number 0 h.coded) (ap (λ (v : World). coded form m.state (f v)) h.is)

  -- what a call answers on bytes that hold a world
  pub called-answer : (form : Form) {r : ℕ} {m' : Memory} → said r m' ≡ called form f m → r ≡ in_form form (f w).number (f w).value
  unfolding coded
  called-answer form p = ap (λ (s : Said). s.answer) (p ∙ coded_is form)

module _ (f : World → Given) (q : Quiet f) {m : Memory} {w : World} (h : HoldsWorld m w) (n : length (f w).world.state.column ≡ 16) where
  refused_holds : (form : Form) → (f w).number ≢ 0 → HoldsWorld (coded form m.state (f w)).memory (f w).world
  unfolding coded
  refused_holds form d =
      let e : (f w).world ≡ w = q.same w d in
      let k : memory m.state (f w).world.slots (f w).world.pool (f w).world.books ≡ m = ap (λ (v : World). memory m.state v.slots v.pool v.books) (e ∙ sym h.is) in
      rw (ne_eqb (f w).number 0 d, k) (record { bytes = h.bytes; coded = h.coded; is = h.is ∙ sym e })

  pub called_holds : (form : Form) {r : ℕ} {m' : Memory} → said r m' ≡ called form f m → Bytes m'.state → HoldsWorld m' (f w).world
  called_holds form {r} {m'} p is =
      let e : m' ≡ (coded form m.state (f w)).memory = ap (λ (s : Said). s.memory) (p ∙ coded_is f h form) in
      rw e (go (ℕ_discrete (f w).number 0) (rw e at is))
    where
      go : Dec ((f w).number ≡ 0) → Bytes (coded form m.state (f w)).memory.state → HoldsWorld (coded form m.state (f w)).memory (f w).world
      go (yes z) b = coded_holds form m.state (f w) z n b
      go (no d) b = refused_holds form d

limit_holds : (flag rows : ℕ) {r : ℕ} {m : Memory} {w : World} {state : List ℕ} → HoldsWorld m w → length w.state.column ≡ 16 → told r state ≡ limit_set flag rows m.state → Bytes state → HoldsWorld (memory state m.slots m.pool m.books) (in_state w (with_limit w.state (limit_in flag rows)))
unfolding limit_set
limit_holds flag rows {r} {m} {w} {state} h n p is =
    let v : World = in_state (world_in m) (with_limit (world_in m).state (limit_in flag rows)) in
    let k : state ≡ limited (limit_in flag rows) m.state = ap (λ (t : Told). t.bytes) (rw (eq-eqb (length m.state) state_bytes (decoded-length m.state refl h.coded)) at p) in
    let e : state ≡ code_of v.state = k ∙ ap (limited (limit_in flag rows)) (sym (api.decoded-code m.state refl h.coded h.bytes)) ∙ limit_code (world_in m).state (limit_in flag rows) in
    let j : HoldsWorld (memory (code_of v.state) m.slots m.pool m.books) v = code_holds v (rw (← h.is) at n) (rw e at is) in
    rw (e, ← h.is) j

limit_done : (flag rows : ℕ) {r : ℕ} {m : Memory} {w : World} {state : List ℕ} → HoldsWorld m w → told r state ≡ limit_set flag rows m.state → r ≡ 0
unfolding limit_set
limit_done flag rows {m = m} h p =
    ap (λ (t : Told). t.answer) (rw (eq-eqb (length m.state) state_bytes (decoded-length m.state refl h.coded)) at p)

pub sent_holds : (m : Memory) (c : Call) {r : ℕ} {m' : Memory} {w : World} → Between w → HoldsWorld m w → Sent m c r m' → HoldsWorld m' (step w c).world
unfolding step pushing finishing dropping registering letting_go
sent_holds m (push b bytes) {w = w} g h (sent_push d p is) =
    called_holds (pushing b) (pushing_quiet b) h (call_law w (push b bytes) g).between.holding.sixteen number p is
sent_holds m finish {w = w} g h (sent_finish p is) =
    called_holds finishing finishing_quiet h (call_law w finish g).between.holding.sixteen number p is
sent_holds m drop {w = w} g h (sent_drop p is) =
    called_holds dropping dropping_quiet h (call_law w drop g).between.holding.sixteen both p is
sent_holds m (register bytes capacity) {w = w} g h (sent_register p is) =
    called_holds (registering bytes capacity) (registering_quiet bytes capacity) h (call_law w (register bytes capacity) g).between.holding.sixteen both p is
sent_holds m (let_go k) {w = w} g h (sent_let_go p is) =
    called_holds (letting_go k) (letting_go_quiet k) h (call_law w (let_go k) g).between.holding.sixteen number p is
sent_holds m (limit l) {w = w} g h (sent_limit flag rows p is) = limit_holds flag rows h g.holding.sixteen p is
sent_holds m read g h (sent_read is) = h

-- ---- answers

-- what 01's call answers, in the form that crosses the C layer; a read may answer anything here
abbrev pub Answers : World → Call → ℕ → Type 0
Answers w (push b bytes) r = r ≡ (push_call w b).number
Answers w finish r = r ≡ (finish_call w).number
Answers w drop r = r ≡ pair (drop_call w).number (drop_call w).rows
Answers w (register bytes capacity) r = r ≡ pair (refusal_of (register_call w bytes capacity).answer) (number_in (register_call w bytes capacity).answer)
Answers w (let_go k) r = r ≡ (let_go_call w k).number
Answers w (limit l) r = r ≡ 0
Answers w read r = r ≡ r

pub sent_answers : (m : Memory) (c : Call) {r : ℕ} {m' : Memory} {w : World} → Between w → HoldsWorld m w → Sent m c r m' → Answers w c r
unfolding pushing finishing dropping registering letting_go
sent_answers m (push b bytes) g h (sent_push d p is) = called-answer (pushing b) h number p
sent_answers m finish g h (sent_finish p is) = called-answer finishing h number p
sent_answers m drop g h (sent_drop p is) = called-answer dropping h both p
sent_answers m (register bytes capacity) g h (sent_register p is) = called-answer (registering bytes capacity) h both p
sent_answers m (let_go k) g h (sent_let_go p is) = called-answer (letting_go k) h number p
sent_answers m (limit l) g h (sent_limit flag rows p is) = limit_done flag rows h p
sent_answers m read g h (sent_read is) = refl

-- two numbers taken apart
apart : (n v : ℕ) {r : ℕ} → r ≡ pair n v → v < 2 ^ 32 → (upper r ≡ n) × (lower r ≡ v)
apart n v {r} e h = (omega arith, omega arith)

module _ {w : World} (g : Between w) where
  -- a drop answers at most R rows, and none exactly where nothing is queued
  drop_few : ((drop_call w).rows < 2 ^ 32) × (eqb (drop_call w).rows 0 ≡ eqb w.state.queued 0)
  drop_few = go (ℕ_discrete w.state.queued 0)
    where
      in_queue : front_slot w ≤ w.state.queue
      in_queue = queued_in w.state 0 g.holding.run.fit.place

      go : Dec (w.state.queued ≡ 0) → ((drop_call w).rows < 2 ^ 32) × (eqb (drop_call w).rows 0 ≡ eqb w.state.queued 0)
      go (yes e) = rw (drop-empty w (between-tested g) e) (omega arith, sym (eq-eqb w.state.queued 0 e))
      go (no n) =
          rw (drop-front w (between-tested g) n, ne_eqb w.state.queued 0 n) (
            omega (arith, g.holding.counted (front_slot w) in_queue, (bounds_say w.state g.holding.run.fit.bounds).rows),
            ne_eqb (rows_in w (front_slot w)) 0 (λ z. absurd (omega (arith, z, g.holding.some (front_slot w) (record { turn = 0; below = omega arith; is = refl })))),
          )

  -- next_completed_batch: the refusal, and the rows of the batch
  pub drop-answer : {m : Memory} {r : ℕ} {m' : Memory} → HoldsWorld m w → Sent m drop r m' → (upper r ≡ (drop_call w).number) × (lower r ≡ (drop_call w).rows)
  drop-answer {m} h s = apart (drop_call w).number (drop_call w).rows (sent_answers m drop g h s) drop_few.0

  -- register_buffer: the refusal, and the buffer's number
  number_fits : (bytes : List ℕ) (capacity : ℕ) → number_in (register_call w bytes capacity).answer < 2 ^ 32
  unfolding registered
  number_fits bytes capacity =
      rw (ap (λ (a : RegisterAnswer). a.answer) (register_steps w bytes capacity (between-tested g)))
      (by_size (ltb capacity (length bytes)))
    where
      at : (x : Result Room ℕ) → chosen w.books w.state.numbers (length w.pool) capacity ≡ x → number_in (settled_at w.books w.pool bytes capacity x).answer < 2 ^ 32
      at (Err n) e = omega arith
      at (Ok r) e =
          omega (arith, number_few w.books w.state.numbers (length w.pool) capacity refl e (bounds_say w.state g.holding.run.fit.bounds).numbers)

      by_size : (x : Bool) → number_in (cond x (record { answer = Err 13; books = w.books; pool = w.pool }) (settled_at w.books w.pool bytes capacity (chosen w.books w.state.numbers (length w.pool) capacity))).answer < 2 ^ 32
      by_size true = omega arith
      by_size false = at (chosen w.books w.state.numbers (length w.pool) capacity) refl

  pub register_answer : {m : Memory} (bytes : List ℕ) (capacity : ℕ) {r : ℕ} {m' : Memory} → HoldsWorld m w → Sent m (register bytes capacity) r m' → (upper r ≡ refusal_of (register_call w bytes capacity).answer) × (lower r ≡ number_in (register_call w bytes capacity).answer)
  register_answer {m} bytes capacity h s =
      apart (refusal_of (register_call w bytes capacity).answer) (number_in (register_call w bytes capacity).answer) (sent_answers m (register bytes capacity) g h s) (number_fits bytes capacity)

-- the rows and batches that the answers tell of are those of the step
sent_accepted : (m : Memory) (c : Call) {r : ℕ} {m' : Memory} {w : World} → Between w → HoldsWorld m w → Sent m c r m' → accepted_by m c r ≡ (step w c).accepted
unfolding step
sent_accepted m (push b bytes) {w = w} g h s =
    ap (λ (n : ℕ). if_done n (batch_rows (world_in m) b)) (sent_answers m (push b bytes) g h s)
    ∙ ap (λ (v : World). if_done (push_call w b).number (batch_rows v b)) h.is
sent_accepted m finish g h s = refl
sent_accepted m drop g h s = refl
sent_accepted m (register bytes capacity) g h s = refl
sent_accepted m (let_go k) g h s = refl
sent_accepted m (limit l) g h s = refl
sent_accepted m read g h s = refl

sent_taken : (m : Memory) (c : Call) {r : ℕ} {m' : Memory} {w : World} → Between w → HoldsWorld m w → Sent m c r m' → taken_by m c r ≡ (step w c).taken
unfolding step
sent_taken m (push b bytes) g h s = refl
sent_taken m finish g h s = refl
sent_taken m drop {r = r} {w = w} g h s =
    ap (λ (n : ℕ). front (world_in m) n (eqb (lower r) 0)) (drop-answer g h s).0
    ∙ ap (λ (v : ℕ). front (world_in m) (drop_call w).number (eqb v 0)) (drop-answer g h s).1
    ∙ ap (front (world_in m) (drop_call w).number) (drop_few g).1
    ∙ ap (λ (v : World). front v (drop_call w).number (eqb w.state.queued 0)) h.is
sent_taken m (register bytes capacity) g h s = refl
sent_taken m (let_go k) g h s = refl
sent_taken m (limit l) g h s = refl
sent_taken m read g h s = refl

-- ---- a history

-- bytes that hold what a history left, with its rows and its batches
pub record Ran (y : DidBytes) (x : Did) : Type 0 where
  pub holds : HoldsWorld y.memory x.world
  pub accepted_are : y.accepted ≡ x.accepted
  pub taken_are : y.taken ≡ x.taken

pub sends_ran : {m : Memory} {cs : List Call} {y : DidBytes} {w : World} → Between w → HoldsWorld m w → Sends m cs y → Ran y (run w cs)
unfolding run
sends_ran g h none = record { holds = h; accepted_are = refl; taken_are = refl }
sends_ran {w = w} g h (astray {m = m} {l = l} {n = n} {c = c} {r = r} live e s d ss) =
    let k : live n ≡ m = ap live (sent_nothing l c s d) ∙ e in
    let rest = sends_ran g (rw k h) ss in
    record {
      holds = rest.holds;
      accepted_are = rw (nothing-accepted l c r d) rest.accepted_are;
      taken_are = rw (nothing-taken l c r d) rest.taken_are;
    }
sends_ran {w = w} g h (next {m = m} {n = n} {c = c} {y = y} s ss) =
    let rest = sends_ran (call_law w c g).between (sent_holds m c g h s) ss in
    record {
      holds = rest.holds;
      accepted_are = rw (sent_accepted m c g h s, rest.accepted_are);
      taken_are = rw (sent_taken m c g h s, rest.taken_are);
    }

-- ---- from a set-up: pw_new, which answered 0, and any calls of the C layer after it

created_holds : (a : Wanted) (kinds : List ℕ) (m : Memory) {r : ℕ} {m' : Memory} → said r m' ≡ created a kinds m → r ≡ 0 → Bytes m'.state → ((set_up_call a m.slots m.pool m.books).number ≡ 0) × HoldsWorld m' (set_up_call a m.slots m.pool m.books).world
unfolding created coded
created_holds a kinds m {r} {m'} p z is = go (eqb (length m.state) state_bytes && eqb (length kinds % 4) 0) p
  where
    x : Answered
    x = set_up_call a m.slots m.pool m.books

    new : x.number ≡ 0 → length x.world.state.column ≡ 16
    new e =
        ap (λ (t : Answered). length t.world.state.column) (set_up_done a m.slots m.pool m.books (set_up_zero a m.slots m.pool m.books e))
        ∙ new_sixteen a

    go : (y : Bool) → said r m' ≡ cond y (coded number m.state (given x)) (said 1 m) → (x.number ≡ 0) × HoldsWorld m' x.world
    go true e =
        let n : x.number ≡ 0 = sym (ap (λ (t : Said). t.answer) e) ∙ z in
        let k : m' ≡ (coded number m.state (given x)).memory = ap (λ (t : Said). t.memory) e in
        (n, rw k (coded_holds number m.state (given x) n (new n) (rw k at is)))
    go false e = let n : r ≡ 1 = ap (λ (t : Said). t.answer) e in absurd (omega arith)

module _ (a : Wanted) (kinds : List ℕ) (m : Memory) {r : ℕ} {m₁ : Memory} (p : SentNew a kinds m r m₁) (z : r ≡ 0) (cs : List Call) {y : DidBytes} (s : Sends m₁ cs y) where
  pub set_up_is : (set_up_call a m.slots m.pool m.books).number ≡ 0
  set_up_is = (created_holds a kinds m p.is z p.bytes).0

  -- the bytes hold the world of the history, of which all is proved; what the calls answered tells its rows
  pub bytes_ran : Ran y (did a m.slots m.pool m.books set_up_is cs)
  bytes_ran =
      sends_ran (set_up_begins a m.slots m.pool m.books set_up_is).between (created_holds a kinds m p.is z p.bytes).1 s

  -- and the rows of the pushes that answered 0 are the rows taken, then those that the bytes hold: demand 3, on bytes
  pub bytes_in_order : y.accepted ≡ joined y.taken ++ (queued_rows (world_in y.memory) ++ buffered_rows (world_in y.memory))
  bytes_in_order =
      rw (bytes_ran.accepted_are, bytes_ran.taken_are, bytes_ran.holds.is) (in_order_lem a m.slots m.pool m.books set_up_is cs)

  -- a row read there is that row of the batch that a drop would take; `sent::read_row` has its words
  pub bytes_read : (c i : ℕ) → is_row (world_in y.memory) c i ≡ true → read_as (world_in y.memory) (read_row (world_in y.memory) c i) ≡ Some (get_or (get_or (taken_rows (world_in y.memory)) i []) c null)
  bytes_read c i = rw bytes_ran.holds.is (reads_taken a m.slots m.pool m.books set_up_is p.slots cs c i)
