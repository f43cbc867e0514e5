-- A step's answer beside the result of a definition: done, refused, and what a next step has of it.
use Rattle.std.specs.Prelude.{ℕ, ◌≡◌, refl, ◌≢◌, List}
use Rattle.std.proofs.Common.{sym, ◌∙◌, ap}
use Rattle.state.specs.declared.BatchCoalescer.{BatchCoalescer}
use Rattle.state.specs.World.{World, world}
use Rattle.rules.specs.Steps.{Res, ok, refuse}
use Rattle.rules.specs.Held.{holds_not}
use Rattle.rules.specs.Push.{finished, if_full}
use Rattle.rules.proofs.PushLaws.{finished_holds, full_holds}
use Rattle.rules.specs.Calls.{Answered, or_old}
use Rattle.rules.specs.declared.Step.{Step}
use Rattle.rules.specs.Leaves.{Steps}
use Rattle.finishing.specs.Finish.{answered, Finishes}

module _ (w : World) {slots pool books : List ℕ} where
  pub answer-done : {x : Res} {u : BatchCoalescer} → x ≡ ok (world u slots pool books) → answered (record { state = u; number = 0 }) slots pool books ≡ or_old w x
  answer-done e = rw e

  -- the number is that of the refusal, and the world that of the definition
  pub answer-steps : (x : Res) {q : Step} → x ≢ refuse 0 → answered q slots pool books ≡ or_old w x → Steps x q slots pool books
  answer-steps (ok v) {q} h e =
      record { done = λ z. ap ok (sym (ap (λ (a : Answered). a.world) e)); not = λ m. absurd (m (ap (λ (a : Answered). a.number) e)) }
  answer-steps (refuse n) {q} h e =
      let p : q.number ≡ n = ap (λ (a : Answered). a.number) e in
      record { done = λ z. absurd (h (ap refuse (sym p ∙ z))); not = λ m. ap refuse (sym p) }

module _ {f : World → Res} {s : BatchCoalescer} {slots books : List ℕ} where
  pub finishes_done : {u : BatchCoalescer} {slots' books' : List ℕ} → ((pool : List ℕ) → f (world s slots pool books) ≡ ok (world u slots' pool books')) → Finishes f s slots books (record { state = u; number = 0 }) slots' books'
  finishes_done e = record { is = λ pool. answer-done (world s slots pool books) (e pool) }

  pub finishes_refused : {n : ℕ} → ((pool : List ℕ) → f (world s slots pool books) ≡ refuse n) → Finishes f s slots books (record { state = s; number = n }) slots books
  finishes_refused {n} e = record { is = λ pool. go pool (e pool) }
    where
      go : (pool : List ℕ) → f (world s slots pool books) ≡ refuse n → answered (record { state = s; number = n }) slots pool books ≡ or_old (world s slots pool books) (f (world s slots pool books))
      go pool z = rw z

-- no refusal has the number 0, so that the number tells which it is
module _ {s : BatchCoalescer} {slots books slots' books' : List ℕ} {q : Step} (pool : List ℕ) where
  pub finished-steps : Finishes finished s slots books q slots' books' → Steps (finished (world s slots pool books)) q slots' pool books'
  finished-steps k =
      answer-steps (world s slots pool books) (finished (world s slots pool books)) (λ e. holds_not 0 refl (finished_holds (world s slots pool books)) e refl) (k.is pool)

  pub full_steps : Finishes if_full s slots books q slots' books' → Steps (if_full (world s slots pool books)) q slots' pool books'
  full_steps k =
      answer-steps (world s slots pool books) (if_full (world s slots pool books)) (λ e. holds_not 0 refl (full_holds (world s slots pool books)) e refl) (k.is pool)
