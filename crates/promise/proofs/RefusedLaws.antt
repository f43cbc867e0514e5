-- Demand 1 on bytes: a refused call of the C layer changes no byte that it is lent, whatever bytes those are.
use Rattle.std.specs.Prelude.{ℕ, ◌+◌, ◌*◌, ◌/◌, ◌≤◌, ◌<◌, ◌^◌, ◌≡◌, refl, ◌≢◌, Bool, true, false, cond, List, [], length, eqb, ltb}
use Rattle.std.proofs.Common.{sym, ◌∙◌, ap, arith}
use Rattle.std.proofs.Math.Decide.{ℕ_discrete}
use Rattle.pool.specs.Register.{settled_at, registered}
use Rattle.room.specs.Room.{chosen}
use Rattle.room.specs.RoomLaws.{number_few}
use Rattle.state.specs.declared.RowAnswer.{RowAnswer}
use Rattle.state.specs.World.{World, world}
use Rattle.state.specs.Layout.{rows_in}
use Rattle.state.proofs.SlotLaws.{queued_in}
use Rattle.state.specs.Rows.{front_slot}
use Rattle.rules.specs.Ranges.{tested}
use Rattle.rules.specs.Calls.{RegisterAnswer, Dropped, drop_call, register_call, row_refusal}
use Rattle.rules.proofs.CallLaws.{drop-tested, drop-empty, drop-front}
use Rattle.rules.proofs.RegisterLaws.{register_tested, register_steps}
use Rattle.ranges.specs.SaysLaws.{says_few, says-rows, says-place, says_slot}
use Rattle.codes.specs.Code.{state_bytes, limit_in, limited, decoded}
use Rattle.crossing.specs.Cross.{pair, number_in, row_bytes}
use Rattle.capi.specs.Api.{Memory, memory, Said, said, Told, told, Form, number, both, Given, pushing, finishing, dropping, registering, letting_go, world_in, called, row_in, row_read, limit_set}
use Rattle.capi.specs.QuietLaws.{number_of, value_of, Quiet, answer-number, answer_both, refused-nothing, pushing_quiet, finishing_quiet, dropping_quiet, registering_quiet, letting_go_quiet}
use Rattle.history.specs.Call.{Call, push, finish, drop, register, let_go, limit, read}
use Rattle.history.proofs.StrayLaws.{not_accepted, none-taken}
use Rattle.promise.specs.OnBytes.{Sent, sent_push, sent_finish, sent_drop, sent_register, sent_let_go, sent_limit, sent_read, upper, accepted_by, taken_by, refused_by}
use Rattle.std.specs.Prelude.{Result, Ok, Err}
use Rattle.room.specs.declared.Room.{Room}

-- ---- the second number of an answer that has two: it fits a word, in every world

-- counts do not look at slots and pool
same_rows : (w : World) (slot : ℕ) → rows_in w slot ≡ rows_in (world w.state [] [] w.books) slot
unfolding rows_in
same_rows w slot = refl

drop_value : (w : World) → (drop_call w).rows < 2 ^ 32
drop_value w = go (ℕ_discrete (tested w) 0) (ℕ_discrete w.state.queued 0)
  where
    few : tested w ≡ 0 → rows_in w (front_slot w) ≤ 65536
    few z =
        let i = queued_in w.state 0 (says-place w.state w.slots w.pool w.books (sym z) refl) in
        omega (arith, says_slot w.state w.slots w.pool w.books (sym z) refl (front_slot w) (same_rows w (front_slot w)) i, says-rows w.state w.slots w.pool w.books (sym z) refl)

    go : Dec (tested w ≡ 0) → Dec (w.state.queued ≡ 0) → (drop_call w).rows < 2 ^ 32
    go (no d) q = rw (drop-tested w d) (omega arith)
    go (yes z) (yes e) = rw (drop-empty w z e) (omega arith)
    go (yes z) (no n) = rw (drop-front w z n) (omega (arith, few z))

register_value : (w : World) (bytes : List ℕ) (capacity : ℕ) → number_in (register_call w bytes capacity).answer < 2 ^ 32
unfolding registered
register_value w bytes capacity = go (ℕ_discrete (tested w) 0)
  where
    at : w.state.numbers ≤ 65536 → (x : Result Room ℕ) → chosen w.books w.state.numbers (length w.pool) capacity ≡ x → number_in (settled_at w.books w.pool bytes capacity x).answer < 2 ^ 32
    at h (Err n) e = omega arith
    at h (Ok r) e = omega (arith, number_few w.books w.state.numbers (length w.pool) capacity refl e h)

    by_size : w.state.numbers ≤ 65536 → (x : Bool) → number_in (cond x (record { answer = Err 13; books = w.books; pool = w.pool }) (settled_at w.books w.pool bytes capacity (chosen w.books w.state.numbers (length w.pool) capacity))).answer < 2 ^ 32
    by_size h true = omega arith
    by_size h false = at h (chosen w.books w.state.numbers (length w.pool) capacity) refl

    go : Dec (tested w ≡ 0) → number_in (register_call w bytes capacity).answer < 2 ^ 32
    go (no d) = rw (ap (λ (a : RegisterAnswer). a.answer) (register_tested w bytes capacity d)) (omega arith)
    go (yes z) =
        rw (ap (λ (a : RegisterAnswer). a.answer) (register_steps w bytes capacity z))
        (by_size (says_few w.state w.slots w.pool w.books (sym z) refl).numbers (ltb capacity (length bytes)))

-- ---- one call

fits : (f : World → Given) (m : Memory) → ((w : World) → (f w).value < 2 ^ 32) → value_of f m < 2 ^ 32
unfolding value_of
fits f m h = go (eqb (decoded m.state).number 0)
  where
    go : (x : Bool) → cond x (f (world_in m)).value 0 < 2 ^ 32
    go true = h (world_in m)
    go false = omega arith

upper-none : (n v : ℕ) {r : ℕ} → r ≡ pair n v → v < 2 ^ 32 → n ≡ 0 → upper r ≡ 0
upper-none n v e h z = omega arith

module _ (f : World → Given) (q : Quiet f) (m : Memory) {r : ℕ} {m' : Memory} where
  -- an answer of one number
  number-nothing : said r m' ≡ called number f m → r ≢ 0 → m' ≡ m
  number-nothing p d =
      ap (λ (t : Said). t.memory) p
      ∙ refused-nothing f m number q (λ z. d (ap (λ (t : Said). t.answer) p ∙ answer-number f m ∙ z))

  -- of two
  both_nothing : ((w : World) → (f w).value < 2 ^ 32) → said r m' ≡ called both f m → upper r ≢ 0 → m' ≡ m
  both_nothing h p d =
      ap (λ (t : Said). t.memory) p
      ∙ refused-nothing f m both q (λ z. d (upper-none (number_of f m) (value_of f m) (ap (λ (t : Said). t.answer) p ∙ answer_both f m) (fits f m h) z))

limit_nothing : (flag rows : ℕ) (b : List ℕ) {r : ℕ} {b' : List ℕ} → told r b' ≡ limit_set flag rows b → r ≢ 0 → b' ≡ b
unfolding limit_set
limit_nothing flag rows b {r} {b'} p d = go (eqb (length b) state_bytes) p
  where
    go : (x : Bool) → told r b' ≡ cond x (told 0 (limited (limit_in flag rows) b)) (told 1 b) → b' ≡ b
    go true e = absurd (d (ap (λ (t : Told). t.answer) e))
    go false e = ap (λ (t : Told). t.bytes) e

-- THE THEOREM: no byte of state, slots, pool or books changes
pub sent_nothing : (m : Memory) (c : Call) {r : ℕ} {m' : Memory} → Sent m c r m' → refused_by c r ≢ 0 → m' ≡ m
unfolding dropping registering
sent_nothing m (push b bytes) (sent_push d p is) h = number-nothing (pushing b) (pushing_quiet b) m p h
sent_nothing m finish (sent_finish p is) h = number-nothing finishing finishing_quiet m p h
sent_nothing m drop (sent_drop p is) h = both_nothing dropping dropping_quiet m drop_value p h
sent_nothing m (register bytes capacity) (sent_register p is) h =
    both_nothing (registering bytes capacity) (registering_quiet bytes capacity) m (λ w. register_value w bytes capacity) p h
sent_nothing m (let_go k) (sent_let_go p is) h = number-nothing (letting_go k) (letting_go_quiet k) m p h
sent_nothing m (limit l) (sent_limit flag rows p is) h =
    ap (λ (b : List ℕ). memory b m.slots m.pool m.books) (limit_nothing flag rows m.state p h)
sent_nothing m read (sent_read is) h = absurd (h refl)

-- its answer tells of no row and no batch
pub nothing-accepted : (m : Memory) (c : Call) (r : ℕ) → refused_by c r ≢ 0 → accepted_by m c r ≡ []
nothing-accepted m (push b bytes) r h = not_accepted r _ h
nothing-accepted m finish r h = refl
nothing-accepted m drop r h = refl
nothing-accepted m (register bytes capacity) r h = refl
nothing-accepted m (let_go k) r h = refl
nothing-accepted m (limit l) r h = refl
nothing-accepted m read r h = refl

pub nothing-taken : (m : Memory) (c : Call) (r : ℕ) → refused_by c r ≢ 0 → taken_by m c r ≡ []
nothing-taken m (push b bytes) r h = refl
nothing-taken m finish r h = refl
nothing-taken m drop r h = none-taken (world_in m) (upper r) _ h
nothing-taken m (register bytes capacity) r h = refl
nothing-taken m (let_go k) r h = refl
nothing-taken m (limit l) r h = refl
nothing-taken m read r h = refl

-- the bytes that a refused read of a row is lent for its answer stay too
pub row-nothing : (m : Memory) (c i : ℕ) (out : List ℕ) {r : ℕ} {out' : List ℕ} → told r out' ≡ row_read m c i out → r ≢ 0 → out' ≡ out
unfolding row_read
row-nothing m c i out {r} {out'} p d = go (eqb (length out) 20) p
  where
    by : (a : RowAnswer) → told r out' ≡ told (row_refusal a) (row_bytes a out) → out' ≡ out
    by RowAnswer.Null e = absurd (d (ap (λ (t : Told). t.answer) e))
    by (RowAnswer.Value p) e = absurd (d (ap (λ (t : Told). t.answer) e))
    by (RowAnswer.Refused n) e = ap (λ (t : Told). t.bytes) e

    go : (x : Bool) → told r out' ≡ cond x (told (row_refusal (row_in m c i)) (row_bytes (row_in m c i) out)) (told 1 out) → out' ≡ out
    go true e = by (row_in m c i) e
    go false e = ap (λ (t : Told). t.bytes) e
