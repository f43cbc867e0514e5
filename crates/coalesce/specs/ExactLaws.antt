-- push_batch is the call: a law for each exit of push_judged and of push_batch.
use Rattle.std.specs.Prelude.{ℕ, ◌≡◌, Bool, true, false, List, Result, Ok, Err}
use Rattle.std.proofs.Common.{sym, ◌∙◌, ap}
use Rattle.std.proofs.Math.Decide.{ℕ_discrete}
use Rattle.rules.specs.declared.Step.{Step}
use Rattle.rules.specs.Leaves.{Steps}
use Rattle.state.specs.declared.BatchCoalescer.{BatchCoalescer}
use Rattle.state.specs.World.{World, world}
use Rattle.rules.specs.Batch.{Batch}
use Rattle.rules.specs.Steps.{Res, ok, refuse}
use Rattle.rules.specs.Push.{pushed, stepped}
use Rattle.rules.specs.Calls.{Answered, or_old, push_call}
use Rattle.trial_truth.specs.Like.{number_of}
use Rattle.trial.specs.Trial.{Answers}
use Rattle.trial.specs.NumberLaws.{answers_number, answers_refuses}
use Rattle.judging.specs.Judging.{verdict_of, Judges}
use Rattle.judging.specs.JudgeLaws.{VerdictCase, refuses, nothing, goes, verdict_case}
use Rattle.finishing.specs.Finish.{answered}
use Rattle.coalesce.specs.Push.{Ready}

-- ---- the exits of push_judged

-- a result whose number is 0 is not the refusal of a step
number-done : {x : Res} {r : Step} {slots pool books : List ℕ} → number_of x ≡ 0 → Steps x r slots pool books → (r.number ≡ 0) × (x ≡ ok (world r.state slots pool books))
number-done {x} {r} {slots} {pool} {books} e s = go (ℕ_discrete r.number 0)
  where
    go : Dec (r.number ≡ 0) → (r.number ≡ 0) × (x ≡ ok (world r.state slots pool books))
    go (yes d) = (d, s.done d)
    go (no d) = absurd (d (sym (ap number_of (s.not d)) ∙ e))

old_done : (w : World) {x : Res} {n : ℕ} {v : World} → n ≡ 0 → x ≡ ok v → ◌≡◌ {A = Answered} (record { number = n; world = v }) (or_old w x)
old_done w z e = rw (z, e)

old_refused : (w : World) {x : Res} {n : ℕ} → x ≡ refuse n → ◌≡◌ {A = Answered} (record { number = n; world = w }) (or_old w x)
old_refused w e = rw e

-- the trial said n, and put the books back
module _ {s : BatchCoalescer} {slots pool books after : List ℕ} {b : Batch} {n : ℕ} (a : Ready s slots pool books b) (r : after ≡ books) (t : Answers s books b n) where
  pub judged_done : {q : Step} {slots' pool' books' : List ℕ} → n ≡ 0 → Steps (stepped (world s slots pool after) b) q slots' pool' books' → answered q slots' pool' books' ≡ or_old (world s slots pool books) (stepped (world s slots pool books) b)
  judged_done {q} {slots'} {pool'} {books'} z k =
      let k' : Steps (stepped (world s slots pool books) b) q slots' pool' books' = rw r at k in
      let e = number-done (answers_number t slots pool a.slots_are a.pool_is ∙ z) k' in
      old_done (world s slots pool books) e.0 e.1

  pub judged_lacks : (n ≡ 0 → ⊥) → answered (record { state = s; number = n }) slots pool after ≡ or_old (world s slots pool books) (stepped (world s slots pool books) b)
  judged_lacks z = rw r (old_refused (world s slots pool books) (answers_refuses t slots pool a.slots_are a.pool_is z))

-- ---- the exits of push_batch: v is what judge answered

call_is : (w : World) (b : Batch) {x : Res} → pushed w b ≡ x → push_call w b ≡ or_old w x
unfolding push_call
call_is w b e = ap (or_old w) e

module _ (w : World) (b : Batch) where
  says_go : verdict_of w b ≡ Ok true → pushed w b ≡ stepped w b
  says_go e = go (verdict_case w b)
    where
      go : VerdictCase w b → pushed w b ≡ stepped w b
      go (refuses n x y) = absurd (cc)
      go (nothing x y) = absurd (cc)
      go (goes x g y) = y

  says_nothing : verdict_of w b ≡ Ok false → pushed w b ≡ ok w
  says_nothing e = go (verdict_case w b)
    where
      go : VerdictCase w b → pushed w b ≡ ok w
      go (refuses n x y) = absurd (cc)
      go (nothing x y) = y
      go (goes x g y) = absurd (cc)

  says-refused : (n : ℕ) → verdict_of w b ≡ Err n → pushed w b ≡ refuse n
  says-refused n e = go (verdict_case w b)
    where
      go : VerdictCase w b → pushed w b ≡ refuse n
      go (refuses m x y) = let q : ◌≡◌ {A = Result Bool ℕ} (Err m) (Err n) = sym x ∙ e in let z : m ≡ n = cc in y ∙ ap refuse z
      go (nothing x y) = absurd (cc)
      go (goes x g y) = absurd (cc)

module _ {s : BatchCoalescer} {slots pool books : List ℕ} {b : Batch} {v : Result Bool ℕ} (j : Judges s slots pool books b v) where
  abbrev u : World
  u = world s slots pool books

  verdict_is : {o : Result Bool ℕ} → v ≡ o → verdict_of u b ≡ o
  verdict_is g = sym j.verdict_is ∙ g

  pub push_goes : {r : Step} {slots' pool' books' : List ℕ} → v ≡ Ok true → answered r slots' pool' books' ≡ or_old (world s slots pool books) (stepped (world s slots pool books) b) → answered r slots' pool' books' ≡ push_call (world s slots pool books) b
  push_goes g d = d ∙ sym (call_is u b (says_go u b (verdict_is g)))

  pub push_nothing : v ≡ Ok false → answered (record { state = s; number = 0 }) slots pool books ≡ push_call (world s slots pool books) b
  push_nothing g = sym (call_is u b (says_nothing u b (verdict_is g)))

  pub push_refused : {n : ℕ} → v ≡ Err n → answered (record { state = s; number = n }) slots pool books ≡ push_call (world s slots pool books) b
  push_refused {n} g = sym (call_is u b (says-refused u b n (verdict_is g)))
