-- What a step of the code leaves, beside the result that a definition gives: its world, or the number of its refusal.
use Rattle.std.specs.Prelude.{ℕ, ◌≡◌, refl, ◌≢◌, List}
use Rattle.std.proofs.Common.{sym, ◌∙◌, ap}
use Rattle.state.specs.declared.BatchCoalescer.{BatchCoalescer}
use Rattle.state.specs.World.{World, world}
use Rattle.rules.specs.Steps.{Res, ok, refuse, bind}
use Rattle.rules.specs.declared.Step.{Step}

-- a step that answers 0 leaves the definition's world; one that answers a number refuses with it, as the definition does
pub record Steps (x : Res) (r : Step) (slots pool books : List ℕ) : Type 0 where
  pub done : r.number ≡ 0 → x ≡ ok (world r.state slots pool books)
  pub not : r.number ≢ 0 → x ≡ refuse r.number

module _ {x : Res} {slots pool books : List ℕ} where
  pub steps-done : {s : BatchCoalescer} → x ≡ ok (world s slots pool books) → Steps x (record { state = s; number = 0 }) slots pool books
  steps-done e = record { done = λ z. e; not = λ n. absurd (n refl) }

  pub steps-refused : {s : BatchCoalescer} {n : ℕ} → n ≢ 0 → x ≡ refuse n → Steps x (record { state = s; number = n }) slots pool books
  steps-refused m e = record { done = λ z. absurd (m z); not = λ n. e }

-- a step behind another that was done, and behind one that refused
module _ {x : Res} (f : World → Res) {r : Step} {slots pool books : List ℕ} where
  pub steps_next : {q : Step} {slots' pool' books' : List ℕ} → Steps x r slots pool books → r.number ≡ 0 → Steps (f (world r.state slots pool books)) q slots' pool' books' → Steps (bind x f) q slots' pool' books'
  steps_next a e b = record { done = λ z. ap (λ y. bind y f) (a.done e) ∙ b.done z; not = λ n. ap (λ y. bind y f) (a.done e) ∙ b.not n }

  pub steps_stop : Steps x r slots pool books → r.number ≢ 0 → Steps (bind x f) r slots pool books
  steps_stop a m = record { done = λ z. absurd (m z); not = λ n. ap (λ y. bind y f) (a.not n) }
