-- Every call: a refusal leaves the world as it was, 0 is the number of no refusal, and what set-up fixed stays.
use Rattle.std.specs.Prelude.{ℕ, ◌+◌, ◌-◌, ◌≡◌, ◌≢◌, Bool, true, false, cond, List, [], ◌∷◌, length, replicate, eqb}
use Rattle.std.proofs.Math.Path.{refl}
use Rattle.std.proofs.Common.{sym, ◌∙◌, ap, arith}
use Rattle.std.proofs.Math.Bool.{and-eq-true_iff}
use Rattle.std.proofs.Math.Decide.{ℕ_discrete}
use borrow.Author.Tests.{leb-true, eqb-false, eq-eqb, ne_eqb}
use Rattle.listings.specs.Listing.{unlisted_one}
use Rattle.state.specs.World.{World}
use Rattle.state.specs.Layout.{rows_in}
use Rattle.state.specs.Rows.{front_slot}
use Rattle.rules.specs.Batch.{Batch}
use Rattle.rules.specs.Ranges.{in_bounds, fits_set_up, tested}
use Rattle.rules.specs.TestLaws.{tested-number}
use Rattle.rules.specs.Steps.{Res, ok, refuse, each}
use Rattle.rules.specs.Push.{pushed, finished}
use Rattle.rules.specs.Calls.{Wanted, or_old, new_state, no_state, set_up_call, push_call, finish_call, uncounted, list_dropped, Dropped, dropped, drop_call}
use Rattle.rules.specs.Held.{among, Among, among-more, among_not, Holds, held, refused, holds_not, holds_more, holds_cond}
use Rattle.rules.specs.SizeLaws.{length-unlisted_one, length-over_list}
use Rattle.rules.specs.Stays.{same_counts, Counted, Beside, beside_trans, each_beside, beside_state, Stays, stays_refl}
use Rattle.rules.proofs.PartLaws.{counting_beside}
use Rattle.rules.proofs.PushLaws.{finished_holds, ends_stays, pushed_holds}

-- ---- a result, and the old world where it is a refusal

module _ (w : World) where
  pub old_refused : (r : Res) → (or_old w r).number ≢ 0 → (or_old w r).world ≡ w
  old_refused (ok v) h = absurd (h refl)
  old_refused (refuse n) h = refl

  pub old_accepted : {r : Res} {v : World} → r ≡ ok v → or_old w r ≡ record { number = 0; world = v }
  old_accepted e = rw e

  pub old_number : {r : Res} {n : ℕ} → r ≡ refuse n → or_old w r ≡ record { number = n; world = w }
  old_number e = rw e

  -- a result that refuses with some of these numbers, and 0 is none of them
  pub old_zero : {P : World → Type 0} {ns : List ℕ} {r : Res} → Holds P (Among ns) r → among 0 ns ≡ false → (or_old w r).number ≡ 0 → r ≡ ok (or_old w r).world
  old_zero (held p) f e = refl
  old_zero (refused a) f e = absurd (among_not 0 f a e)

  pub old_among : {P : World → Type 0} {ns : List ℕ} {r : Res} → Holds P (Among ns) r → (or_old w r).number ≢ 0 → Among ns (or_old w r).number
  old_among (held p) h = absurd (h refl)
  old_among (refused a) h = a

  pub old_holds : {P : World → Type 0} {N : ℕ → Type 0} {r : Res} → Holds P N r → P w → P (or_old w r).world
  old_holds (held p) q = p
  old_holds (refused a) q = q

-- ---- set-up

module _ (a : Wanted) (slots pool books : List ℕ) where
  -- the world that set-up is asked to begin
  abbrev asked : World
  asked = record { state = new_state a; slots = slots; pool = pool; books = books }

  pub set_up_done : fits_set_up (record { state = new_state a; slots = slots; pool = pool; books = books }) ≡ true → set_up_call a slots pool books ≡ record { number = 0; world = record { state = new_state a; slots = slots; pool = pool; books = replicate (length books) 0 } }
  unfolding set_up_call
  set_up_done p = rw (p, set_up_call)

  pub set_up_not : fits_set_up (record { state = new_state a; slots = slots; pool = pool; books = books }) ≡ false → set_up_call a slots pool books ≡ record { number = 1; world = record { state = no_state; slots = slots; pool = pool; books = books } }
  unfolding set_up_call
  set_up_not p = rw (p, set_up_call)

  pub set_up_zero : (set_up_call a slots pool books).number ≡ 0 → fits_set_up (record { state = new_state a; slots = slots; pool = pool; books = books }) ≡ true
  set_up_zero e = go (fits_set_up asked) refl
    where
      go : (x : Bool) → fits_set_up asked ≡ x → fits_set_up asked ≡ true
      go true p = p
      go false p = let q = ap (λ r. r.number) (set_up_not p) in absurd (omega arith)

  -- a refused set-up changes no lent byte, and hands back the state that every call refuses
  pub set_up_refused : (set_up_call a slots pool books).number ≢ 0 → (set_up_call a slots pool books).world ≡ record { state = no_state; slots = slots; pool = pool; books = books }
  set_up_refused h = go (fits_set_up asked) refl
    where
      go : (x : Bool) → fits_set_up asked ≡ x → (set_up_call a slots pool books).world ≡ record { state = no_state; slots = slots; pool = pool; books = books }
      go true p = absurd (h (ap (λ r. r.number) (set_up_done p)))
      go false p = ap (λ r. r.world) (set_up_not p)

-- the state of a refused set-up is refused by every call, whatever memory it is handed
pub no_state_lem : (w : World) → w.state ≡ no_state → tested w ≡ 1
unfolding tested fits_set_up in_bounds new_state
no_state_lem w e = rw e

-- a state that set-up makes has its counts in range
pub new_counted : (a : Wanted) → in_bounds (new_state a) ≡ true → Counted (new_state a)
unfolding in_bounds new_state
new_counted a e =
    let p = (and-eq-true_iff _ _).0 e in
    let q = (and-eq-true_iff _ _).0 p.0 in
    record { buffered = leb-true 1 a.target q.0; queued = omega arith; place = omega arith }

-- ---- push

module _ (w : World) (b : Batch) where
  pub push_refused : (push_call w b).number ≢ 0 → (push_call w b).world ≡ w
  unfolding push_call
  push_refused h = old_refused w (pushed w b) h

  pub push_zero : (push_call w b).number ≡ 0 → pushed w b ≡ ok (push_call w b).world
  unfolding push_call
  push_zero e = old_zero w (pushed_holds w b) refl e

  pub push_done : {v : World} → pushed w b ≡ ok v → push_call w b ≡ record { number = 0; world = v }
  unfolding push_call
  push_done e = old_accepted w e

  pub push_not : {n : ℕ} → pushed w b ≡ refuse n → (push_call w b ≡ record { number = n; world = w }) × (n ≢ 0)
  unfolding push_call
  push_not {n} e = (old_number w e, holds_not 0 refl (pushed_holds w b) e)

  pub push_stays : Stays w (push_call w b).world
  unfolding push_call
  push_stays = old_holds w (pushed_holds w b) (stays_refl w)

-- ---- finish

module _ (w : World) where
  -- the result of the tests and the steps
  abbrev finishing : Res
  finishing = cond (eqb (tested w) 0) (finished w) (refuse (tested w))

  finishing_holds : Holds (Stays w) (Among (1 ∷ 9 ∷ 14 ∷ [])) finishing
  finishing_holds =
      holds_cond (eqb (tested w) 0)
      (λ h. holds_more (finished_holds w) (λ v e. ends_stays e) (λ n a. among-more (1 ∷ 9 ∷ 14 ∷ []) tt a))
      (λ h. refused (among-more (1 ∷ 9 ∷ 14 ∷ []) tt (tested-number w (eqb-false _ _ h))))

  pub finish_tested : tested w ≢ 0 → finish_call w ≡ record { number = tested w; world = w }
  unfolding finish_call
  finish_tested h = rw (ne_eqb (tested w) 0 h)

  pub finish_steps : tested w ≡ 0 → finish_call w ≡ or_old w (finished w)
  unfolding finish_call
  finish_steps h = rw (eq-eqb (tested w) 0 h)

  pub finish_refused : (finish_call w).number ≢ 0 → (finish_call w).world ≡ w
  unfolding finish_call
  finish_refused h = old_refused w finishing h

  pub finish_number : (finish_call w).number ≢ 0 → Among (1 ∷ 9 ∷ 14 ∷ []) (finish_call w).number
  unfolding finish_call
  finish_number h = old_among w finishing_holds h

  pub finish_zero : (finish_call w).number ≡ 0 → (tested w ≡ 0) × (finished w ≡ ok (finish_call w).world)
  finish_zero e = go (ℕ_discrete (tested w) 0)
    where
      go : Dec (tested w ≡ 0) → (tested w ≡ 0) × (finished w ≡ ok (finish_call w).world)
      go (yes p) =
          (p, rw (finish_steps p) (old_zero w (finished_holds w) refl (sym (ap (λ a. a.number) (finish_steps p)) ∙ e)))
      go (no p) = absurd (p (sym (ap (λ a. a.number) (finish_tested p)) ∙ e))

  pub finish_stays : Stays w (finish_call w).world
  unfolding finish_call
  finish_stays = old_holds w finishing_holds (stays_refl w)

-- ---- drop

pub uncounted_beside : (w : World) (slot : ℕ) → Beside w (uncounted w slot)
unfolding uncounted
uncounted_beside w slot = each_beside (1 + w.state.columns) _ w (λ v k. counting_beside v slot k 0)

pub list_dropped_beside : (w : World) (slot c : ℕ) → Beside w (list_dropped w slot c)
unfolding list_dropped
list_dropped_beside w slot c = beside_state w _ refl refl refl (length-over_list unlisted_one length-unlisted_one w.books _ _)

pub lists_dropped_beside : (w : World) (slot n : ℕ) → Beside w (each n (λ v c. list_dropped v slot c) w)
lists_dropped_beside w slot n = each_beside n _ w (λ v c. list_dropped_beside v slot c)

pub dropped_stays : (w : World) → Stays w (dropped w)
unfolding dropped
dropped_stays w =
    record {
      kept =
          record {
            set_up = same_counts w.state w.state.place (w.state.queued - 1) w.state.buffered.0;
            slots = lists.slots;
            pool = lists.pool;
            books = lists.books;
            queued = λ h. omega arith;
            place = λ h. h;
          };
      below = λ h. h;
    }
  where
    lists : Beside w (uncounted (each w.state.columns (λ v c. list_dropped v (front_slot w) c) w) (front_slot w))
    lists = beside_trans (lists_dropped_beside w (front_slot w) w.state.columns) (uncounted_beside _ (front_slot w))

module _ (w : World) where
  pub drop-tested : tested w ≢ 0 → drop_call w ≡ record { number = tested w; rows = 0; world = w }
  unfolding drop_call
  drop-tested h = rw (ne_eqb (tested w) 0 h, drop_call)

  pub drop-empty : tested w ≡ 0 → w.state.queued ≡ 0 → drop_call w ≡ record { number = 0; rows = 0; world = w }
  unfolding drop_call
  drop-empty h q = rw (eq-eqb (tested w) 0 h, eq-eqb w.state.queued 0 q, drop_call)

  pub drop-front : tested w ≡ 0 → w.state.queued ≢ 0 → drop_call w ≡ record { number = 0; rows = rows_in w (front_slot w); world = dropped w }
  unfolding drop_call
  drop-front h q = rw (eq-eqb (tested w) 0 h, ne_eqb w.state.queued 0 q, drop_call)

  -- one of the three
  drop_by : (P : Dropped → Type 0) → (tested w ≢ 0 → P (record { number = tested w; rows = 0; world = w })) → (tested w ≡ 0 → P (record { number = 0; rows = 0; world = w })) → (tested w ≡ 0 → P (record { number = 0; rows = rows_in w (front_slot w); world = dropped w })) → P (drop_call w)
  drop_by P f g h = go (ℕ_discrete (tested w) 0) (ℕ_discrete w.state.queued 0)
    where
      go : Dec (tested w ≡ 0) → Dec (w.state.queued ≡ 0) → P (drop_call w)
      go (no p) d = rw (drop-tested p) (f p)
      go (yes p) (yes q) = rw (drop-empty p q) (g p)
      go (yes p) (no q) = rw (drop-front p q) (h p)

  pub drop-number : (drop_call w).number ≡ tested w
  drop-number = drop_by (λ d. d.number ≡ tested w) (λ p. refl) (λ p. sym p) (λ p. sym p)

  pub drop-refused : (drop_call w).number ≢ 0 → ((drop_call w).world ≡ w) × ((drop_call w).rows ≡ 0)
  drop-refused h =
      let e = drop-tested (λ p. h (drop-number ∙ p)) in
      (ap (λ d. d.world) e, ap (λ d. d.rows) e)

  pub drop_stays : Stays w (drop_call w).world
  drop_stays = drop_by (λ d. Stays w d.world) (λ p. stays_refl w) (λ p. stays_refl w) (λ p. dropped_stays w)
