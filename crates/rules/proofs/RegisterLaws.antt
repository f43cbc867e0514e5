-- Registering and letting go, as calls: a refusal leaves the world as it was, and what set-up fixed stays.
use Rattle.std.specs.Prelude.{ℕ, ◌≡◌, ◌≢◌, Bool, List, [], ◌∷◌, length, ltb}
use Rattle.std.proofs.Math.Path.{refl}
use Rattle.std.proofs.Common.{sym, ◌∙◌, ap, arith, eq-eqb, ne_eqb}
use Rattle.std.proofs.Math.Bool.{true, false}
use Rattle.std.proofs.Math.Decide.{ℕ_discrete}
use Rattle.search.specs.Cases.{by_cond}
use Rattle.counts.specs.declared.BufferNumber.{BufferNumber}
use Rattle.room.specs.Room.{chosen}
use Rattle.pool.specs.Register.{RegisterOutcome, settled_at, registered, refusal_of, is_held, let_go}
use Rattle.state.specs.World.{World}
use Rattle.rules.specs.Steps.{in_books}
use Rattle.rules.specs.Ranges.{tested}
use Rattle.rules.specs.Calls.{register_call, let_go_call}
use Rattle.rules.specs.Held.{Among, one_of, among-more, among_not}
use Rattle.rules.specs.SizeLaws.{length-registered, pool-registered, length_let_go}
use Rattle.rules.specs.Stays.{Stays, stays_refl, beside_state, beside_stays}
use Rattle.rules.proofs.PartLaws.{chosen-among}
use Rattle.rules.specs.TestLaws.{tested-number}
use Rattle.std.specs.Prelude.{Result, Ok, Err}
use Rattle.room.specs.declared.Room.{Room}

-- ---- register

-- an outcome over books s and pool p: a number and the caller's hold, or a refusal, and nothing is changed
data Outcomes (s p : List ℕ) (o : RegisterOutcome) : Type 0 where
  done : (k : BufferNumber) → o.answer ≡ Ok k → Outcomes s p o
  not : (n : ℕ) → Among (11 ∷ 12 ∷ 13 ∷ []) n → o.answer ≡ Err n → o.books ≡ s → o.pool ≡ p → Outcomes s p o

outcome : (s p : List ℕ) (n : ℕ) (bytes : List ℕ) (capacity : ℕ) → Outcomes s p (registered s p n bytes capacity)
unfolding registered
outcome s p n bytes capacity =
    by_cond (Outcomes s p) (ltb capacity (length bytes)) (λ h. not 13 (one_of _ 13 tt) refl refl refl)
    (λ h. go (chosen s n (length p) capacity) refl)
  where
    go : (c : Result Room ℕ) → chosen s n (length p) capacity ≡ c → Outcomes s p (settled_at s p bytes capacity c)
    go (Err m) e =
        not m (among-more (11 ∷ 12 ∷ 13 ∷ []) tt (chosen-among s n (length p) capacity m e)) refl refl refl
    go (Ok r) e = done r.number refl

module _ (w : World) (bytes : List ℕ) (capacity : ℕ) where
  pub register_tested : tested w ≢ 0 → register_call w bytes capacity ≡ record { answer = Err (tested w); world = w }
  unfolding register_call
  register_tested h = rw (ne_eqb (tested w) 0 h, register_call)

  -- the pool's own outcome
  abbrev outcome_of : RegisterOutcome
  outcome_of = registered w.books w.pool w.state.numbers bytes capacity

  pub register_steps : tested w ≡ 0 → register_call w bytes capacity ≡ record { answer = (registered w.books w.pool w.state.numbers bytes capacity).answer; world = record { state = w.state; slots = w.slots; pool = (registered w.books w.pool w.state.numbers bytes capacity).pool; books = (registered w.books w.pool w.state.numbers bytes capacity).books } }
  unfolding register_call
  register_steps h = rw (eq-eqb (tested w) 0 h, register_call)

  -- a number, or one of these refusals and the old world
  pub data RegisterCase : Type 0 where
    number : tested w ≡ 0 → (k : BufferNumber) → (register_call w bytes capacity).answer ≡ Ok k → RegisterCase
    refusal : (n : ℕ) → Among (1 ∷ 11 ∷ 12 ∷ 13 ∷ 14 ∷ []) n → (register_call w bytes capacity).answer ≡ Err n → (register_call w bytes capacity).world ≡ w → RegisterCase

  pub register_case : RegisterCase
  register_case = go (ℕ_discrete (tested w) 0)
    where
      steps : tested w ≡ 0 → Outcomes w.books w.pool outcome_of → RegisterCase
      steps h (done k e) = number h k (ap (λ a. a.answer) (register_steps h) ∙ e)
      steps h (not n a e q r) =
          refusal n (among-more (1 ∷ 11 ∷ 12 ∷ 13 ∷ 14 ∷ []) tt a) (ap (λ a. a.answer) (register_steps h) ∙ e)
          (ap (λ a. a.world) (register_steps h) ∙ rw (q, r))

      go : Dec (tested w ≡ 0) → RegisterCase
      go (yes h) = steps h (outcome w.books w.pool w.state.numbers bytes capacity)
      go (no h) =
          refusal (tested w) (among-more (1 ∷ 11 ∷ 12 ∷ 13 ∷ 14 ∷ []) tt (tested-number w h)) (ap (λ a. a.answer) (register_tested h))
          (ap (λ a. a.world) (register_tested h))

  pub register_refused : refusal_of (register_call w bytes capacity).answer ≢ 0 → (register_call w bytes capacity).world ≡ w
  register_refused h = go register_case
    where
      go : RegisterCase → (register_call w bytes capacity).world ≡ w
      go (number p k e) = absurd (h (ap refusal_of e))
      go (refusal n a e q) = q

  pub register_zero : refusal_of (register_call w bytes capacity).answer ≡ 0 → (k : BufferNumber) × ((register_call w bytes capacity).answer ≡ Ok k)
  register_zero z = go register_case
    where
      go : RegisterCase → (k : BufferNumber) × ((register_call w bytes capacity).answer ≡ Ok k)
      go (number p k e) = (k, e)
      go (refusal n a e q) = absurd (among_not 0 refl a (sym (ap refusal_of e) ∙ z))

  pub register_stays : Stays w (register_call w bytes capacity).world
  register_stays = go (ℕ_discrete (tested w) 0)
    where
      go : Dec (tested w ≡ 0) → Stays w (register_call w bytes capacity).world
      go (no h) = rw (register_tested h) (stays_refl w)
      go (yes h) =
          rw (register_steps h)
          (beside_stays
          (beside_state w _ refl refl (pool-registered w.books w.pool w.state.numbers bytes capacity)
          (length-registered w.books w.pool w.state.numbers bytes capacity)))

-- ---- let go

module _ (w : World) (i : ℕ) where
  pub let_go_tested : tested w ≢ 0 → let_go_call w i ≡ record { number = tested w; world = w }
  unfolding let_go_call
  let_go_tested h = rw (ne_eqb (tested w) 0 h, let_go_call)

  pub let_go_steps : tested w ≡ 0 → let_go_call w i ≡ record { number = (let_go w.books i).answer; world = in_books w (let_go w.books i).books }
  unfolding let_go_call
  let_go_steps h = rw (eq-eqb (tested w) 0 h, let_go_call)

  -- gone, or one of these refusals and the old world
  pub data LetGoCase : Type 0 where
    gone : tested w ≡ 0 → is_held w.books i ≡ true → (let_go_call w i).number ≡ 0 → LetGoCase
    not_tested : tested w ≢ 0 → (let_go_call w i).number ≡ tested w → (let_go_call w i).world ≡ w → LetGoCase
    not_held : tested w ≡ 0 → is_held w.books i ≡ false → (let_go_call w i).number ≡ 13 → (let_go_call w i).world ≡ w → LetGoCase

  pub let_go_case : LetGoCase
  unfolding let_go
  let_go_case = go (ℕ_discrete (tested w) 0) (is_held w.books i) refl
    where
      go : Dec (tested w ≡ 0) → (x : Bool) → is_held w.books i ≡ x → LetGoCase
      go (no h) x e = not_tested h (ap (λ a. a.number) (let_go_tested h)) (ap (λ a. a.world) (let_go_tested h))
      go (yes h) true e = gone h e (ap (λ a. a.number) (let_go_steps h) ∙ rw e)
      go (yes h) false e =
          not_held h e (ap (λ a. a.number) (let_go_steps h) ∙ rw e) (ap (λ a. a.world) (let_go_steps h) ∙ rw e)

  pub let_go_refused : (let_go_call w i).number ≢ 0 → (let_go_call w i).world ≡ w
  let_go_refused h = go let_go_case
    where
      go : LetGoCase → (let_go_call w i).world ≡ w
      go (gone p q e) = absurd (h e)
      go (not_tested p e q) = q
      go (not_held p q e r) = r

  pub let_go_zero : (let_go_call w i).number ≡ 0 → (tested w ≡ 0) × (is_held w.books i ≡ true)
  let_go_zero z = go let_go_case
    where
      go : LetGoCase → (tested w ≡ 0) × (is_held w.books i ≡ true)
      go (gone p q e) = (p, q)
      go (not_tested p e q) = absurd (p (sym e ∙ z))
      go (not_held p q e r) = absurd (omega arith)

  pub let_go_stays : Stays w (let_go_call w i).world
  let_go_stays = go (ℕ_discrete (tested w) 0)
    where
      go : Dec (tested w ≡ 0) → Stays w (let_go_call w i).world
      go (no h) = rw (let_go_tested h) (stays_refl w)
      go (yes h) = rw (let_go_steps h) (beside_stays (beside_state w _ refl refl refl (length_let_go w.books i)))
