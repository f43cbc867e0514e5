-- What the code makes is the history that its calls are: demand 3, of the code.
use Rattle.std.specs.Prelude.{ℕ, ◌<◌, ◌≡◌, refl, ◌≢◌, List, [], ◌∷◌, ◌++◌, eqb, length}
use Rattle.std.proofs.Common.{sym, ◌∙◌, ap}
use Rattle.pool.specs.Register.{refusal_of}
use Rattle.state.specs.declared.BatchCoalescer.{BatchCoalescer}
use Rattle.state.specs.World.{World, world}
use Rattle.state.specs.Rows.{joined, queued_rows, buffered_rows}
use Rattle.rules.specs.declared.Step.{Step}
use Rattle.rules.specs.Batch.{batch_rows}
use Rattle.rules.specs.Ranges.{tested}
use Rattle.rules.specs.Calls.{Answered, Wanted, set_up_call, drop_call, register_call}
use Rattle.rules.proofs.CallLaws.{set_up_zero, set_up_done}
use Rattle.set_up.specs.SetUp.{SetsUp}
use Rattle.capi.specs.ApiLaws.{drop-same, register_same, let_go_same}
use Rattle.invariant.proofs.Calls.Tested.{between-tested}
use Rattle.history.specs.Call.{Call, push, finish, drop, register, let_go, limit, read, Did, if_done, front, step, run}
use Rattle.history.proofs.History.{did, all, in_order_lem, below_target}
use Rattle.history.specs.Stray.{refusal}
use Rattle.history.proofs.StrayLaws.{refused-nothing, behind}
use Rattle.promise.specs.Code.{Made, by_push, by_finish, by_drop, by_register, by_let_go, by_limit, by_read, Makes, none, next, astray}

-- ---- one call

abbrev changed : World → Did
changed v = record { world = v; accepted = []; taken = [] }

-- what is not lent to be changed is as it was
lent_parts : {state : BatchCoalescer} {slots pool books : List ℕ} (v : World) → v.state ≡ state → v.slots ≡ slots → v.pool ≡ pool → v.books ≡ books → world state slots pool books ≡ v
lent_parts v e f g h = rw (← e, ← f, ← g, ← h)

pub made_is : (w : World) (c : Call) {n : ℕ} {x : Did} → Made w c n x → x ≡ step w c
unfolding step
made_is w (push b bytes) (by_push d p) =
    ap (λ (a : Answered). record { world = a.world; accepted = if_done a.number (batch_rows w b); taken = [] }) p
made_is w finish (by_finish e) = ap (λ (a : Answered). changed a.world) e
made_is w drop (by_drop p) =
    rw (p.state_is, p.number_is, p.books_are)
    (ap (λ (v : World). record { world = v; accepted = []; taken = front w (drop_call w).number (eqb w.state.queued 0) })
    (lent_parts (drop_call w).world refl (drop-same w).0 (drop-same w).1 refl))
made_is w (register bytes capacity) (by_register p) =
    rw (p.pool_is, p.books_are)
    (ap changed (lent_parts (register_call w bytes capacity).world (register_same w bytes capacity).0 (register_same w bytes capacity).1 refl refl))
made_is w (let_go k) (by_let_go p) = rw p.books_are (ap changed (sym (let_go_same w k)))
made_is w (limit l) (by_limit e) = rw e
made_is w read by_read = refl

-- and the number is the call's
pub made-number : (w : World) (c : Call) {n : ℕ} {x : Did} → Made w c n x → n ≡ refusal w c
unfolding refusal
made-number w (push b bytes) (by_push d p) = ap (λ (a : Answered). a.number) p
made-number w finish (by_finish e) = ap (λ (a : Answered). a.number) e
made-number w drop (by_drop p) = p.number_is
made-number w (register bytes capacity) (by_register p) = ap refusal_of p.answer_is
made-number w (let_go k) (by_let_go p) = p.answer_is
made-number w (limit l) (by_limit e) = refl
made-number w read by_read = refl

-- so what the code refuses changes nothing, whatever it was handed: demand 1, of the code
pub made_nothing : (w : World) (c : Call) {n : ℕ} {x : Did} → Made w c n x → n ≢ 0 → x ≡ record { world = w; accepted = []; taken = [] }
made_nothing w c m d = made_is w c m ∙ refused-nothing w c (λ z. d (made-number w c m ∙ z))

-- ---- a history

pub makes_is : {w : World} {cs : List Call} {x : Did} → Makes w cs x → (u : World) → u ≡ w → x ≡ run u cs
unfolding run
makes_is none u e = ap changed (sym e)
makes_is {w} (next {c = c} {x = x} {y = y} m ms) u e =
    let s : x ≡ step u c = made_is w c m ∙ ap (λ (z : World). step z c) (sym e) in
    let r = makes_is ms (step u c).world (sym (ap (λ (d : Did). d.world) s)) in
    ap (λ (d : Did). behind d y) s ∙ ap (behind (step u c)) r
makes_is {w} (astray {v = v} {c = c} {x = x} {y = y} live p m n ms) u e =
    let s : x ≡ changed v = made_nothing v c m n in
    let k : live x.world ≡ w = ap (λ (d : Did). live d.world) s ∙ p in
    ap (λ (d : Did). behind d y) s ∙ makes_is ms u (e ∙ sym k)

-- ---- from a set-up: new_coalescer, which answered 0, and any calls after it, x being what they did

module _ (a : Wanted) (slots pool books : List ℕ) {r : Step} {books' : List ℕ} (s : SetsUp (set_up_call a slots pool books) books' r) (z : r.number ≡ 0) (cs : List Call) {x : Did} (m : Makes (world r.state slots pool books') cs x) where
  -- the set-up is not refused
  pub begun : (set_up_call a slots pool books).number ≡ 0
  begun = sym s.number_is ∙ z

  first_is : world r.state slots pool books' ≡ (set_up_call a slots pool books).world
  first_is =
      let e = set_up_done a slots pool books (set_up_zero a slots pool books begun) in
      lent_parts (set_up_call a slots pool books).world (sym s.state_is) (ap (λ (t : Answered). t.world.slots) e) (ap (λ (t : Answered). t.world.pool) e) (sym s.books_are)

  -- what the code did is the history
  pub code_is : x ≡ did a slots pool books begun cs
  code_is = makes_is m (set_up_call a slots pool books).world (sym first_is)

  -- so that all that is proved of histories is proved of the code: demand 3
  pub code_in_order : x.accepted ≡ joined x.taken ++ (queued_rows x.world ++ buffered_rows x.world)
  code_in_order = rw code_is (in_order_lem a slots pool books begun cs)

  pub code_below_target : length (buffered_rows x.world) < a.target
  code_below_target = rw code_is (below_target a slots pool books begun cs)

  -- and no call meets 1 or 14
  pub code_never_refused : tested x.world ≡ 0
  code_never_refused = rw code_is (between-tested (all a slots pool books begun cs).between)
