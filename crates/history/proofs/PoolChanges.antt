-- Bytes of the pool change only where they are registered or copied.
use Rattle.std.specs.Prelude.{ℕ, ◌≡◌, refl, ◌≢◌, true, List, [], ◌∷◌, get_or, eqb}
use Rattle.std.proofs.Common.{sym, ◌∙◌, ap, arith, eq-eqb}
use Rattle.std.proofs.Math.Decide.{ℕ_discrete}
use Rattle.search.specs.Cases.{by_cond}
use Rattle.counts.specs.declared.BufferNumber.{BufferNumber}
use Rattle.sound.specs.Sound.{filled_bytes}
use Rattle.pool.specs.Register.{is_held}
use Rattle.pool.specs.Read.{part_of}
use Rattle.state.specs.World.{World}
use Rattle.rules.specs.Batch.{Batch}
use Rattle.rules.specs.Ranges.{tested}
use Rattle.rules.specs.Steps.{Res, ok, refuse}
use Rattle.rules.specs.Push.{pushed, finished}
use Rattle.rules.specs.Held.{Among, Holds, held, refused}
use Rattle.rules.specs.Calls.{or_old, push_call, finish_call, drop_call, register_call, let_go_call, buffer_call}
use Rattle.rules.proofs.CallLaws.{finish_steps, drop-tested, drop-empty, drop-front, dropped_stays}
use Rattle.rules.proofs.RegisterLaws.{register_steps, let_go_tested, let_go_steps, let_go_stays}
use Rattle.invariant.specs.Holding.{Between, PoolStays}
use Rattle.invariant.proofs.PoolLaws.{relisted_is, pool_refl}
use Rattle.invariant.proofs.Calls.PushAfter.{RowsBehind, refusals, pushed-after}
use Rattle.invariant.proofs.Calls.FinishAfter.{QueuesBuffered, finished-after}
use Rattle.invariant.proofs.Calls.Tested.{between-tested}
use Rattle.invariant.specs.Calls.MemoryAfter.{NewlyHeld}
use Rattle.invariant.proofs.Calls.MemoryAfter.{let_go_other, register_pool, register_new}
use Rattle.invariant.proofs.Calls.DropAfter.{drop-between, drop_held}
use Rattle.invariant.specs.Calls.PoolAfter.{KeepsHeld}
use Rattle.invariant.proofs.Calls.PoolAfter.{held_refl, held_trans, held_below, held_some, held_there, stays_held, relisted_held, finished-pool, dropped-pool}
use Rattle.history.specs.Call.{Call, push, finish, drop, register, let_go, limit, read, OfBytes, step, run}
use Rattle.history.specs.Law.{run_law}
use Rattle.history.proofs.CallLaws.{call_law}
use Rattle.history.specs.Pool.{NeverLetGo, PoolChanges}
use Rattle.history.proofs.Pool.{push_pool, registering-pool, finishing-pool, dropping-pool, letting_go_pool}

stays_changes : {w v : World} → PoolStays w v → PoolChanges w v
stays_changes s = record { owned = λ k x l h o. (s.lies k l h).bytes x o; unfilled = s.only }

still_changes : {w v : World} → v.pool ≡ w.pool → PoolChanges w v
still_changes e =
    record { owned = λ k x l h o. ap (λ (p : List ℕ). get_or p x 0) e; unfilled = λ x h. ap (λ (p : List ℕ). get_or p x 0) e }

-- every call
pub pool_changes : (w : World) (c : Call) → Between w → PoolChanges w (step w c).world
unfolding step
pool_changes w (push b bytes) g = stays_changes (push_pool w b g bytes)
pool_changes w finish g = still_changes (finishing-pool w)
pool_changes w drop g = still_changes (dropping-pool w)
pool_changes w (register bytes capacity) g = stays_changes (registering-pool w bytes capacity g)
pool_changes w (let_go k) g = still_changes (letting_go_pool w k)
pool_changes w (limit l) g = still_changes refl
pool_changes w read g = still_changes refl
