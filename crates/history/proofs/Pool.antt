-- The pool over a history: a buffer that the caller holds keeps its bytes until it is let go, and bytes change only where they are registered or
-- copied.
use Rattle.std.specs.Prelude.{ℕ, ◌≡◌, refl, ◌≢◌, true, List, [], ◌∷◌, get_or, eqb}
use Rattle.std.proofs.Common.{sym, ◌∙◌, ap, arith, eq-eqb}
use Rattle.std.proofs.Math.Decide.{ℕ_discrete}
use Rattle.search.specs.Cases.{by_cond}
use Rattle.counts.specs.declared.BufferNumber.{BufferNumber}
use Rattle.sound.specs.Sound.{filled_bytes}
use Rattle.pool.specs.Register.{is_held}
use Rattle.pool.specs.Read.{part_of}
use Rattle.state.specs.World.{World}
use Rattle.rules.specs.Batch.{Batch}
use Rattle.rules.specs.Ranges.{tested}
use Rattle.rules.specs.Steps.{Res, ok, refuse}
use Rattle.rules.specs.Push.{pushed, finished}
use Rattle.rules.specs.Held.{Among, Holds, held, refused}
use Rattle.rules.specs.Calls.{or_old, push_call, finish_call, drop_call, register_call, let_go_call, buffer_call}
use Rattle.rules.proofs.CallLaws.{finish_steps, drop-tested, drop-empty, drop-front, dropped_stays}
use Rattle.rules.proofs.RegisterLaws.{register_steps, let_go_tested, let_go_steps, let_go_stays}
use Rattle.invariant.specs.Holding.{Between, PoolStays}
use Rattle.invariant.proofs.PoolLaws.{relisted_is, pool_refl}
use Rattle.invariant.proofs.Calls.PushAfter.{RowsBehind, refusals, pushed-after}
use Rattle.invariant.proofs.Calls.FinishAfter.{QueuesBuffered, finished-after}
use Rattle.invariant.proofs.Calls.Tested.{between-tested}
use Rattle.invariant.specs.Calls.MemoryAfter.{NewlyHeld}
use Rattle.invariant.proofs.Calls.MemoryAfter.{let_go_other, register_pool, register_new}
use Rattle.invariant.proofs.Calls.DropAfter.{drop-between, drop_held}
use Rattle.invariant.specs.Calls.PoolAfter.{KeepsHeld}
use Rattle.invariant.proofs.Calls.PoolAfter.{held_refl, held_trans, held_below, held_some, held_there, stays_held, relisted_held, finished-pool, dropped-pool}
use Rattle.history.specs.Call.{Call, push, finish, drop, register, let_go, limit, read, OfBytes, step, run}
use Rattle.history.specs.Law.{run_law}
use Rattle.history.proofs.CallLaws.{call_law}
use Rattle.history.specs.Pool.{NeverLetGo, PoolChanges}
use Rattle.std.specs.Prelude.{Ok}

-- ---- what each call leaves of the pool

push_stays_so : {w : World} {rows : List _} (r : Res) → Holds (RowsBehind w rows) (Among refusals) r → PoolStays w (or_old w r).world
push_stays_so (ok v) (held p) = p.pool
push_stays_so {w} (refuse n) (refused m) = pool_refl w

-- a push leaves every buffer that was live, and otherwise writes only where a buffer is filled then
pub push_pool : (w : World) (b : Batch) → Between w → OfBytes b → PoolStays w (push_call w b).world
unfolding push_call
push_pool w b g bytes = push_stays_so (pushed w b) (pushed-after w b g (between-tested g) bytes.body)

-- registering too
pub registering-pool : (w : World) (bytes : List ℕ) (capacity : ℕ) → Between w → PoolStays w (register_call w bytes capacity).world
registering-pool w bytes capacity g = rw (register_steps w bytes capacity (between-tested g)) (register_pool g bytes capacity)

-- finishing, dropping and letting go write no byte of it, in any world
pub finishing-pool : (w : World) → (finish_call w).world.pool ≡ w.pool
unfolding finish_call
finishing-pool w = by_cond (λ (r : Res). (or_old w r).world.pool ≡ w.pool) (eqb (tested w) 0) (λ e. go (finished w) refl) (λ e. refl)
  where
    go : (r : Res) → finished w ≡ r → (or_old w r).world.pool ≡ w.pool
    go (ok v) e = finished-pool w v e
    go (refuse n) e = refl

pub dropping-pool : (w : World) → (drop_call w).world.pool ≡ w.pool
dropping-pool w = go (ℕ_discrete (tested w) 0) (ℕ_discrete w.state.queued 0)
  where
    go : Dec (tested w ≡ 0) → Dec (w.state.queued ≡ 0) → (drop_call w).world.pool ≡ w.pool
    go (no p) d = ap (λ r. r.world.pool) (drop-tested w p)
    go (yes p) (yes q) = ap (λ r. r.world.pool) (drop-empty w p q)
    go (yes p) (no q) = ap (λ r. r.world.pool) (drop-front w p q) ∙ dropped-pool w

pub letting_go_pool : (w : World) (i : ℕ) → (let_go_call w i).world.pool ≡ w.pool
letting_go_pool w i = go (ℕ_discrete (tested w) 0)
  where
    go : Dec (tested w ≡ 0) → (let_go_call w i).world.pool ≡ w.pool
    go (no p) = ap (λ r. r.world.pool) (let_go_tested w i p)
    go (yes p) = ap (λ r. r.world.pool) (let_go_steps w i p)

-- ---- a buffer that the caller holds keeps its bytes until it is let go

finish_held : {w : World} (k : ℕ) (r : Res) → Between w → is_held w.books k ≡ true → Holds (QueuesBuffered w) (Among (9 ∷ [])) r → KeepsHeld w (or_old w r).world k
finish_held k (ok v) g h (held p) = stays_held g k h p.between p.along.pool
finish_held {w} k (refuse n) g h (refused m) = held_refl w k h

-- every call but that one
step_held : (w : World) (c : Call) (k : ℕ) → Between w → is_held w.books k ≡ true → c ≢ let_go k → Between (step w c).world → KeepsHeld w (step w c).world k
unfolding step
step_held w (push b bytes) k g h n t = stays_held g k h t (push_pool w b g bytes)
step_held w finish k g h n t =
    rw (finish_steps w (between-tested g)) (finish_held k (finished w) g h (finished-after w g.holding (omega (arith, g.below)) (λ z. g) g.spared))
step_held w drop k g h n t = go (ℕ_discrete w.state.queued 0)
  where
    go : Dec (w.state.queued ≡ 0) → KeepsHeld w (drop_call w).world k
    go (yes e) = rw (drop-empty w (between-tested g) e) (held_refl w k h)
    go (no e) =
        rw (drop-front w (between-tested g) e)
        (relisted_held g k h (drop-between g e) (dropped_stays w).kept.set_up.numbers (drop_held g e k (held_below g k h) (held_some g k h)) (dropped-pool w))
step_held w (register bytes capacity) k g h n t = stays_held g k h t (registering-pool w bytes capacity g)
step_held w (let_go j) k g h n t =
    relisted_held g k h t (let_go_stays w j).kept.set_up.numbers
    (rw (let_go_steps w j (between-tested g)) (relisted_is (let_go_other g j k (λ e. n (ap let_go (sym e))))))
    (letting_go_pool w j)
step_held w (limit l) k g h n t = record { held = h; start = refl; capacity = refl; length = refl; bytes = refl }
step_held w read k g h n t = held_refl w k h

-- a read of it hands back its bytes
read_held : (w : World) (k : ℕ) → Between w → is_held w.books k ≡ true → buffer_call w k ≡ filled_bytes w.books w.pool k
unfolding buffer_call part_of filled_bytes
read_held w k g h = rw (eq-eqb (tested w) 0 (between-tested g), held_there g k h)

-- any calls
pub held_keeps : (w : World) (cs : List Call) (k : ℕ) → Between w → is_held w.books k ≡ true → NeverLetGo k cs → KeepsHeld w (run w cs).world k
unfolding run
held_keeps w [] k g h n = held_refl w k h
held_keeps w (c ∷ cs) k g h n =
    let t : Between (step w c).world = (call_law w c g).between in
    let s : KeepsHeld w (step w c).world k = step_held w c k g h n.0 t in
    held_trans s (held_keeps (step w c).world cs k t s.held n.1)

-- what registering answered is held, and filled with the bytes
registering-new : (w : World) (bytes : List ℕ) (capacity : ℕ) (k : BufferNumber) → Between w → (register_call w bytes capacity).answer ≡ Ok k → NewlyHeld (register_call w bytes capacity).world.pool (register_call w bytes capacity).world.books bytes k.0
registering-new w bytes capacity k g e =
    rw (register_steps w bytes capacity (between-tested g))
    (register_new g bytes capacity k (sym (ap (λ r. r.answer) (register_steps w bytes capacity (between-tested g))) ∙ e))

-- so a read of a buffer hands back the bytes that were registered, until it is let go
pub registered_reads : (w : World) (bytes : List ℕ) (capacity : ℕ) (k : BufferNumber) (cs : List Call) → Between w → (register_call w bytes capacity).answer ≡ Ok k → NeverLetGo k.0 cs → buffer_call (run (register_call w bytes capacity).world cs).world k.0 ≡ bytes
unfolding step
registered_reads w bytes capacity k cs g e n = read_held u k.0 between s.held ∙ s.bytes ∙ new.filled
  where
    v : World
    v = (register_call w bytes capacity).world

    u : World
    u = (run v cs).world

    registers : Between v
    registers = (call_law w (register bytes capacity) g).between

    new : NewlyHeld v.pool v.books bytes k.0
    new = registering-new w bytes capacity k g e

    between : Between u
    between = (run_law call_law v cs registers).between

    s : KeepsHeld v u k.0
    s = held_keeps v cs k.0 registers new.held n
