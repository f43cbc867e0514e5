-- A history keeps the columns of its set-up: as many as were asked for, each of its kind.
use Rattle.std.specs.Prelude.{ℕ, ◌≡◌, refl, List, [], ◌∷◌, length}
use Rattle.std.proofs.Common.{sym, ◌∙◌, ap}
use Rattle.state.specs.World.{World, column_of}
use Rattle.state.specs.declared.BatchCoalescer.{BatchCoalescer}
use Rattle.state.specs.Rows.{slot_row}
use Rattle.rules.specs.Batch.{Batch, batch_row}
use Rattle.rules.specs.Calls.{Answered, Wanted, new_state, set_up_call}
use Rattle.rules.proofs.CallLaws.{set_up_zero, set_up_done, push_stays, finish_stays, drop_stays}
use Rattle.rules.proofs.RegisterLaws.{register_stays, let_go_stays}
use Rattle.invariant.specs.RowLaws.{length-upTo}
use Rattle.history.specs.Call.{Call, push, finish, drop, register, let_go, limit, read, step, run}
use Rattle.history.proofs.History.{did}

-- as many columns, each of the same kind
record Columns (s t : BatchCoalescer) : Type 0 where
  pub columns : t.columns ≡ s.columns
  pub kind : (c : ℕ) → (column_of t c).kind ≡ (column_of s c).kind

step_columns : (w : World) (c : Call) → Columns w.state (step w c).world.state
unfolding step column_of
step_columns w (push b bytes) = let k = (push_stays w b).kept.set_up in record { columns = k.columns; kind = k.kind }
step_columns w finish = let k = (finish_stays w).kept.set_up in record { columns = k.columns; kind = k.kind }
step_columns w drop = let k = (drop_stays w).kept.set_up in record { columns = k.columns; kind = k.kind }
step_columns w (register bytes capacity) = let k = (register_stays w bytes capacity).kept.set_up in record { columns = k.columns; kind = k.kind }
step_columns w (let_go n) = let k = (let_go_stays w n).kept.set_up in record { columns = k.columns; kind = k.kind }
step_columns w (limit l) = record { columns = refl; kind = λ c. refl }
step_columns w read = record { columns = refl; kind = λ c. refl }

run_columns : (w : World) (cs : List Call) → Columns w.state (run w cs).world.state
unfolding run
run_columns w [] = record { columns = refl; kind = λ c. refl }
run_columns w (c ∷ cs) =
    let x = step_columns w c in
    let r = run_columns (step w c).world cs in
    record { columns = r.columns ∙ x.columns; kind = λ k. r.kind k ∙ x.kind k }

new_columns : (a : Wanted) → (new_state a).columns ≡ length a.kinds
unfolding new_state
new_columns a = refl

-- a row has a cell for each column of its world
pub row_wide : (w : World) (slot i : ℕ) → length (slot_row w slot i) ≡ w.state.columns
unfolding slot_row
row_wide w slot i = length-upTo w.state.columns _

pub pushed_wide : (w : World) (b : Batch) (i : ℕ) → length (batch_row w b i) ≡ w.state.columns
unfolding batch_row
pushed_wide w b i = length-upTo w.state.columns _

module _ (a : Wanted) (slots pool books : List ℕ) (ok : (set_up_call a slots pool books).number ≡ 0) (cs : List Call) where
  -- as many columns as kinds were asked for, and the kinds that set-up laid down
  pub columns_asked : (did a slots pool books ok cs).world.state.columns ≡ length a.kinds
  columns_asked =
      (run_columns (set_up_call a slots pool books).world cs).columns
      ∙ ap (λ (r : Answered). r.world.state.columns) (set_up_done a slots pool books (set_up_zero a slots pool books ok))
      ∙ new_columns a

  pub kinds-asked : (c : ℕ) → (column_of (did a slots pool books ok cs).world.state c).kind ≡ (column_of (new_state a) c).kind
  kinds-asked c =
      (run_columns (set_up_call a slots pool books).world cs).kind c
      ∙ ap (λ (r : Answered). (column_of r.world.state c).kind) (set_up_done a slots pool books (set_up_zero a slots pool books ok))
