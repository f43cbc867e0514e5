-- The exits of finish_buffered_batch: n is what the tests answered.
use Rattle.std.specs.Prelude.{ℕ, ◌≡◌, List}
use Rattle.std.proofs.Common.{sym, ◌∙◌}
use Rattle.rules.specs.declared.Step.{Step}
use Rattle.state.specs.declared.BatchCoalescer.{BatchCoalescer}
use Rattle.state.specs.World.{world}
use Rattle.rules.specs.Push.{finished}
use Rattle.rules.specs.Ranges.{tested}
use Rattle.rules.specs.Calls.{finish_call}
use Rattle.rules.proofs.CallLaws.{finish_tested, finish_steps}
use Rattle.finishing.specs.Finish.{answered, Finishes}

module _ (s : BatchCoalescer) (slots pool books : List ℕ) {n : ℕ} (e : n ≡ tested (world s slots pool books)) where
  pub finish_done : {r : Step} {slots' books' : List ℕ} → n ≡ 0 → Finishes finished s slots books r slots' books' → answered r slots' pool books' ≡ finish_call (world s slots pool books)
  finish_done z f = f.is pool ∙ sym (finish_steps (world s slots pool books) (sym e ∙ z))

  pub finish_stopped : (n ≡ 0 → ⊥) → answered (record { state = s; number = n }) slots pool books ≡ finish_call (world s slots pool books)
  finish_stopped h =
      rw e (sym (finish_tested (world s slots pool books) (λ z. h (e ∙ z))))
