-- Demand 3: over every history, the rows of the accepted pushes, in push order, are the rows taken, then those queued, then those buffered.
use Rattle.std.specs.Prelude.{ℕ, ◌<◌, ◌≡◌, refl, length}
use Rattle.std.proofs.Common.{sym, ◌∙◌, ap, arith}
use mathlib.Core.List.{List, [], ◌∷◌, ◌++◌}
use Rattle.counts.specs.declared.RowCount.{RowCount}
use Rattle.state.specs.World.{World}
use Rattle.state.specs.Rows.{Row, joined, queued_batches, queued_rows, buffered_rows}
use Rattle.rules.specs.Ranges.{tested}
use Rattle.rules.specs.Calls.{Answered, Wanted, new_state, set_up_call}
use Rattle.rules.proofs.CallLaws.{set_up_zero, set_up_done, push_stays, finish_stays, drop_stays}
use Rattle.rules.proofs.RegisterLaws.{register_stays, let_go_stays}
use Rattle.invariant.specs.Holding.{Between}
use Rattle.invariant.specs.RowLaws.{length-rows}
use Rattle.invariant.proofs.Calls.After.{rows_are}
use Rattle.invariant.proofs.Calls.Tested.{between-tested}
use Rattle.invariant.proofs.Calls.SetUpAfter.{Starts, set_up_begins}
use Rattle.history.specs.Call.{Call, push, finish, drop, register, let_go, limit, read, Did, step, run}
use Rattle.history.specs.Law.{Law, content, law_rows, run_law}
use Rattle.history.proofs.CallLaws.{call_law}

-- ---- from any world between two calls

module _ (w : World) (g : Between w) (cs : List Call) where
  pub histories : Law w (run w cs)
  histories = run_law call_law w cs g

  -- no call of a history meets 1 or 14
  pub never_refused : tested (run w cs).world ≡ 0
  never_refused = between-tested histories.between

  -- fewer rows than the target are buffered
  pub few_buffered : length (buffered_rows (run w cs).world) < (run w cs).world.state.target.0
  few_buffered =
      let v : World = (run w cs).world in
      omega (arith, ap length (rows_are v), length-rows v v.state.place v.state.buffered.0, histories.between.below)

-- the target is that of set-up
step_target : (w : World) (c : Call) → (step w c).world.state.target ≡ w.state.target
unfolding step
step_target w (push b bytes) = (push_stays w b).kept.set_up.target
step_target w finish = (finish_stays w).kept.set_up.target
step_target w drop = (drop_stays w).kept.set_up.target
step_target w (register bytes capacity) = (register_stays w bytes capacity).kept.set_up.target
step_target w (let_go k) = (let_go_stays w k).kept.set_up.target
step_target w (limit l) = refl
step_target w read = refl

new_target : (a : Wanted) → (new_state a).target.0 ≡ a.target
unfolding new_state
new_target a = refl

run_target : (w : World) (cs : List Call) → (run w cs).world.state.target ≡ w.state.target
unfolding run
run_target w [] = refl
run_target w (c ∷ cs) = run_target (step w c).world cs ∙ step_target w c

-- ---- from a set-up that is not refused

module _ (a : Wanted) (slots pool books : List ℕ) (ok : (set_up_call a slots pool books).number ≡ 0) (cs : List Call) where
  -- the world that set-up makes, and what the calls after it did
  abbrev pub first : World
  first = (set_up_call a slots pool books).world

  abbrev pub did : Did
  did = run first cs

  starts : Starts first
  starts = set_up_begins a slots pool books ok

  pub all : Law first did
  all = histories first starts.between cs

  -- the theorem
  pub in_order_lem : did.accepted ≡ joined did.taken ++ (queued_rows did.world ++ buffered_rows did.world)
  unfolding content queued_rows joined
  in_order_lem = from_empty ∙ law_rows first did all
    where
      empty : content first ≡ []
      empty = rw (starts.batches, starts.rows)

      from_empty : did.accepted ≡ content first ++ did.accepted
      from_empty = ap (λ (r : List Row). r ++ did.accepted) (sym empty)

  -- the batches made are those taken and those queued; what was accepted besides is buffered
  pub in_batches : all.made ≡ did.taken ++ queued_batches did.world
  in_batches = ap (λ (l : List (List Row)). l ++ all.made) (sym starts.batches) ∙ sym all.batches

  pub below_target : length (buffered_rows did.world) < a.target
  below_target = rw target at (few_buffered first starts.between cs)
    where
      target : did.world.state.target.0 ≡ a.target
      target =
          ap (λ (r : RowCount). r.0) (run_target first cs)
          ∙ ap (λ (r : Answered). r.world.state.target.0) (set_up_done a slots pool books (set_up_zero a slots pool books ok))
          ∙ new_target a
