-- Steps 3 and 4, for the push and for its trial: a part that fills the slot, and where the loop ends.
use Rattle.std.specs.Prelude.{ℕ, zero, suc, ◌+◌, ◌-◌, ◌≤◌, ◌≡◌, refl}
use Rattle.std.proofs.Common.{sym, ◌∙◌, ap}
use Rattle.state.specs.World.{World}
use Rattle.rules.specs.Batch.{Batch}
use Rattle.rules.specs.Steps.{Res, ok, refuse, bind}
use Rattle.rules.specs.Push.{finished, part_taken, if_full}
use Rattle.rules.specs.Turns.{space, coalesced, coalesced-last}
use Rattle.rules.specs.Held.{holds_ok}
use Rattle.rules.proofs.PushLaws.{Ends, taken_holds}
use Rattle.rules.proofs.StepLaws.{full_finishes}

-- behind a part that fills the slot, finishing if it is full is finishing
pub full_turn : (w₀ w : World) (b : Batch) (from n : ℕ) → w.state.buffered.0 + n ≡ w.state.target.0 → bind (part_taken w₀ w b from n) if_full ≡ bind (part_taken w₀ w b from n) finished
full_turn w₀ w b from n e = go (part_taken w₀ w b from n) refl
  where
    go : (r : Res) → part_taken w₀ w b from n ≡ r → bind r if_full ≡ bind r finished
    go (ok u) p =
        let i : Ends w (w.state.buffered.0 + n) u = holds_ok u (taken_holds w₀ w b from n) p in
        full_finishes u (i.buffered ∙ e ∙ ap (λ z. z.0) (sym i.kept.set_up.target))
    go (refuse m) p = refl

-- where the loop ends, with or without a turn left
pub ends_cut : (turns : ℕ) (w₀ w : World) (b : Batch) (from : ℕ) → b.rows - from ≤ space w → coalesced turns w₀ w b from ≡ bind (part_taken w₀ w b from (b.rows - from)) if_full
unfolding coalesced
ends_cut zero w₀ w b from l = refl
ends_cut (suc turns) w₀ w b from l = coalesced-last turns w₀ w b from l
