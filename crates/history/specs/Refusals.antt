-- The numbers that calls of a history refuse with: never 1, 8 or 14.
use Rattle.std.specs.Prelude.{ℕ, ◌≡◌, refl, ◌≢◌, Bool, true, false, cond, List, [], ◌∷◌, length, ltb}
use Rattle.std.proofs.Common.{◌∙◌, ap, arith}
use Rattle.state.specs.World.{World}
use Rattle.room.specs.Room.{chosen}
use Rattle.pool.specs.Register.{refusal_of, refused, settled_at, registered}
use Rattle.rules.specs.Batch.{Batch}
use Rattle.rules.specs.Held.{Among, one_of, among-more}
use Rattle.rules.specs.Calls.{Answered, RegisterAnswer, push_call, finish_call, drop_call, register_call, let_go_call}
use Rattle.rules.proofs.CallLaws.{old_among, finish_steps, drop-number}
use Rattle.rules.proofs.RegisterLaws.{LetGoCase, let_go_case, register_steps}
use Rattle.rules.proofs.PartLaws.{chosen-among}
use Rattle.invariant.specs.Holding.{Between}
use Rattle.invariant.proofs.Calls.FinishAfter.{finished-after}
use Rattle.invariant.proofs.Calls.PushAfter.{refusals, pushed-after}
use Rattle.invariant.proofs.Calls.Tested.{between-tested}
use Rattle.history.specs.Call.{OfBytes}
use Rattle.std.specs.Prelude.{Result, Ok, Err}
use Rattle.room.specs.declared.Room.{Room}

-- what registering answers behind the tests: a number, or 13, 11, 12
outcome_refusals : (s p : List ℕ) (n : ℕ) (bytes : List ℕ) (capacity : ℕ) → refusal_of (registered s p n bytes capacity).answer ≢ 0 → Among (11 ∷ 12 ∷ 13 ∷ []) (refusal_of (registered s p n bytes capacity).answer)
unfolding registered
outcome_refusals s p n bytes capacity = go (ltb capacity (length bytes))
  where
    chose : (x : Result Room ℕ) → chosen s n (length p) capacity ≡ x → refusal_of (settled_at s p bytes capacity x).answer ≢ 0 → Among (11 ∷ 12 ∷ 13 ∷ []) (refusal_of (settled_at s p bytes capacity x).answer)
    chose (Err m) e d = among-more (11 ∷ 12 ∷ 13 ∷ []) tt (chosen-among s n (length p) capacity m e)
    chose (Ok r) e d = absurd (d refl)

    go : (b : Bool) → refusal_of (cond b (refused s p 13) (settled_at s p bytes capacity (chosen s n (length p) capacity))).answer ≢ 0 → Among (11 ∷ 12 ∷ 13 ∷ []) (refusal_of (cond b (refused s p 13) (settled_at s p bytes capacity (chosen s n (length p) capacity))).answer)
    go true d = one_of (11 ∷ 12 ∷ 13 ∷ []) 13 tt
    go false d = chose (chosen s n (length p) capacity) refl d

module _ {w : World} (g : Between w) where
  -- push: 2 to 7, and 9 to 12
  pub push_refusals : (b : Batch) → OfBytes b → (push_call w b).number ≢ 0 → Among refusals (push_call w b).number
  unfolding push_call
  push_refusals b bytes n = old_among w (pushed-after w b g (between-tested g) bytes.body) n

  -- finish: 9 alone
  pub finish_refusals : (finish_call w).number ≢ 0 → Among (9 ∷ []) (finish_call w).number
  finish_refusals n =
      rw (finish_steps w (between-tested g))
      (old_among w (finished-after w g.holding (omega (arith, g.below)) (λ z. g) g.spared) (λ e. n (ap (λ (r : Answered). r.number) (finish_steps w (between-tested g)) ∙ e)))

  -- drop: none
  pub drop-refusals : (drop_call w).number ≡ 0
  drop-refusals = drop-number w ∙ between-tested g

  -- letting go: 13 alone
  pub let_go_refusals : (i : ℕ) → (let_go_call w i).number ≢ 0 → (let_go_call w i).number ≡ 13
  let_go_refusals i n = go (let_go_case w i)
    where
      go : LetGoCase w i → (let_go_call w i).number ≡ 13
      go (LetGoCase.gone t h e) = absurd (n e)
      go (LetGoCase.not_tested t e v) = absurd (t (between-tested g))
      go (LetGoCase.not_held t h e v) = e

  -- registering: 13, 11, 12
  pub register_refusals : (bytes : List ℕ) (capacity : ℕ) → refusal_of (register_call w bytes capacity).answer ≢ 0 → Among (11 ∷ 12 ∷ 13 ∷ []) (refusal_of (register_call w bytes capacity).answer)
  register_refusals bytes capacity n =
      let e = register_steps w bytes capacity (between-tested g) in
      rw e
      (outcome_refusals w.books w.pool w.state.numbers bytes capacity
      (λ z. n (ap (λ (r : RegisterAnswer). refusal_of r.answer) e ∙ z)))
