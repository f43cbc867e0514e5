-- The law of one call holds of every call, refused or not.
use Rattle.std.specs.Prelude.{ℕ, zero, suc, ◌≡◌, refl, ◌≢◌, List, [], ◌∷◌, eqb}
use Rattle.std.proofs.Common.{sym, ◌∙◌, append-nil, arith, eq-eqb, ne_eqb}
use Rattle.std.proofs.Math.Decide.{ℕ_discrete}
use Rattle.words.specs.WordLaws.{Bytes}
use Rattle.state.specs.World.{World}
use Rattle.state.specs.Rows.{Row, joined, queued_batches, buffered_rows}
use Rattle.rules.specs.Batch.{batch_rows}
use Rattle.rules.specs.Steps.{Res, ok, refuse}
use Rattle.rules.specs.Push.{pushed, finished}
use Rattle.rules.specs.Calls.{or_old, push_call, drop_call}
use Rattle.rules.specs.Held.{Among, among_not, Holds, held, refused}
use Rattle.rules.proofs.CallLaws.{finish_steps, drop-empty, drop-front}
use Rattle.rules.proofs.RegisterLaws.{register_steps, let_go_steps}
use Rattle.invariant.specs.Holding.{Between}
use Rattle.invariant.proofs.Calls.After.{After}
use Rattle.invariant.proofs.Calls.FinishAfter.{QueuesBuffered, finished-after}
use Rattle.invariant.proofs.Calls.PushAfter.{RowsBehind, refusals, pushed-after}
use Rattle.invariant.proofs.Calls.Tested.{between-tested}
use Rattle.invariant.specs.Calls.MemoryAfter.{SameRows}
use Rattle.invariant.proofs.Calls.MemoryAfter.{same_self, register_same}
use Rattle.invariant.proofs.Calls.LetGoAfter.{let_go_same}
use Rattle.invariant.proofs.Calls.LimitAfter.{limit_same}
use Rattle.invariant.proofs.Calls.DropAfter.{drop-between, drop-batches, drop-rows, drop-bytes}
use Rattle.history.specs.Call.{Call, push, finish, drop, register, let_go, limit, read, if_done, front, step}
use Rattle.history.specs.Law.{Law}

-- a call that pushes rows, and one that changes no row
after_law : {w v : World} {rows : List Row} → Between v → After w rows v → (Bytes w.slots → Bytes v.slots) → Law w (record { world = v; accepted = rows; taken = [] })
after_law g a b = record { between = g; made = a.made; batches = a.batches; rows = a.rows; bytes = b }

same_law : {w v : World} → SameRows w v → Law w (record { world = v; accepted = []; taken = [] })
unfolding joined
same_law {w} {v} s =
    record {
      between = s.between;
      made = [];
      batches = s.batches ∙ sym (append-nil (queued_batches w));
      rows = append-nil (buffered_rows w) ∙ sym s.rows;
      bytes = s.bytes;
    }

-- ---- push and finish

push_result : {w : World} (rows : List Row) (r : Res) → Between w → Holds (RowsBehind w rows) (Among refusals) r → Law w (record { world = (or_old w r).world; accepted = if_done (or_old w r).number rows; taken = [] })
push_result rows (ok v) g (held p) = after_law p.between p.after p.bytes
push_result {w} rows (refuse n) g (refused m) = go n (among_not 0 refl m)
  where
    go : (n : ℕ) → n ≢ 0 → Law w (record { world = w; accepted = if_done n rows; taken = [] })
    go zero d = absurd (d refl)
    go (suc n) d = same_law (same_self g)

finish_result : {w : World} (r : Res) → Between w → Holds (QueuesBuffered w) (Among (9 ∷ [])) r → Law w (record { world = (or_old w r).world; accepted = []; taken = [] })
finish_result (ok v) g (held p) = after_law p.between p.after p.along.bytes
finish_result (refuse n) g (refused m) = same_law (same_self g)

-- ---- drop

drop_law : {w : World} → Between w → Law w (record { world = (drop_call w).world; accepted = []; taken = front w (drop_call w).number (eqb w.state.queued 0) })
unfolding joined
drop_law {w} g = go (ℕ_discrete w.state.queued 0)
  where
    go : Dec (w.state.queued ≡ 0) → Law w (record { world = (drop_call w).world; accepted = []; taken = front w (drop_call w).number (eqb w.state.queued 0) })
    go (yes e) = rw (drop-empty w (between-tested g) e, eq-eqb w.state.queued 0 e) (same_law (same_self g))
    go (no n) =
        rw (drop-front w (between-tested g) n, ne_eqb w.state.queued 0 n)
        (record {
          between = drop-between g n;
          made = [];
          batches = sym (drop-batches g n) ∙ sym (append-nil (queued_batches w));
          rows = append-nil (buffered_rows w) ∙ sym (drop-rows g n);
          bytes = drop-bytes g n;
        })

-- ---- every call

pub call_law : (w : World) (c : Call) → Between w → Law w (step w c)
unfolding step push_call
call_law w (push b bytes) g = push_result (batch_rows w b) (pushed w b) g (pushed-after w b g (between-tested g) bytes.body)
call_law w finish g =
    rw (finish_steps w (between-tested g)) (finish_result (finished w) g (finished-after w g.holding (omega (arith, g.below)) (λ z. g) g.spared))
call_law w drop g = drop_law g
call_law w (register bytes capacity) g = rw (register_steps w bytes capacity (between-tested g)) (same_law (register_same g bytes capacity))
call_law w (let_go k) g = rw (let_go_steps w k (between-tested g)) (same_law (let_go_same g k))
call_law w (limit l) g = same_law (limit_same w l g)
call_law w read g = same_law (same_self g)
