-- A refused call changes nothing, whatever it is handed; so a history with such calls is the one without them.
use Rattle.std.specs.Prelude.{ℕ, zero, suc, ◌<◌, ◌≡◌, refl, ◌≢◌, Bool, List, [], ◌∷◌, ◌++◌, eqb, length}
use Rattle.std.proofs.Common.{sym, ◌∙◌, ap}
use Rattle.state.specs.World.{World}
use Rattle.state.specs.Rows.{Row, joined, queued_rows, buffered_rows}
use Rattle.rules.specs.Batch.{batch_rows}
use Rattle.rules.specs.Ranges.{tested}
use Rattle.rules.specs.Calls.{Wanted, set_up_call, push_call, drop_call}
use Rattle.rules.proofs.CallLaws.{push_refused, finish_refused, drop-refused}
use Rattle.rules.proofs.RegisterLaws.{register_refused, let_go_refused}
use Rattle.invariant.proofs.Calls.Tested.{between-tested}
use Rattle.history.specs.Call.{Call, push, finish, drop, register, let_go, limit, read, Did, if_done, front, step, run}
use Rattle.history.proofs.History.{first, did, all, in_order_lem, below_target}
use Rattle.history.specs.Stray.{refusal, Turn, on, astray, Turns, none, next}

-- ---- one call

abbrev nothing : World → Did
nothing w = record { world = w; accepted = []; taken = [] }

-- a refused push accepts nothing, a refused drop takes nothing
pub not_accepted : (n : ℕ) (rows : List Row) → n ≢ 0 → if_done n rows ≡ []
not_accepted zero rows h = absurd (h refl)
not_accepted (suc n) rows h = refl

pub none-taken : (w : World) (n : ℕ) (b : Bool) → n ≢ 0 → front w n b ≡ []
none-taken w zero b h = absurd (h refl)
none-taken w (suc n) b h = refl

-- DEMAND 1: a refused call changes no state and no lent byte, accepts no row and takes no batch: every call, whatever world it is handed
pub refused-nothing : (w : World) (c : Call) → refusal w c ≢ 0 → step w c ≡ record { world = w; accepted = []; taken = [] }
unfolding step refusal
refused-nothing w (push b bytes) h = rw (push_refused w b h, not_accepted (push_call w b).number (batch_rows w b) h)
refused-nothing w finish h = rw (finish_refused w h)
refused-nothing w drop h = rw ((drop-refused w h).0, none-taken w (drop_call w).number (eqb w.state.queued 0) h)
refused-nothing w (register bytes capacity) h = rw (register_refused w bytes capacity h)
refused-nothing w (let_go k) h = rw (let_go_refused w k h)
refused-nothing w (limit l) h = absurd (h refl)
refused-nothing w read h = absurd (h refl)

-- ---- a history

-- a call, and what was done behind it
abbrev pub behind : Did → Did → Did
behind x y = record { world = y.world; accepted = x.accepted ++ y.accepted; taken = x.taken ++ y.taken }

as_if : {w : World} {x : Did} → Turns w x → (u : World) → u ≡ w → (cs : List Call) × (x ≡ run u cs)
unfolding run
as_if none u e = ([], ap nothing (sym e))
as_if (next {y = y} (on c) ts) u e =
    let r = as_if ts (step u c).world (ap (λ (z : World). (step z c).world) e) in
    (c ∷ r.0, ap (λ (z : World). behind (step z c) y) (sym e) ∙ ap (behind (step u c)) r.1)
as_if {w} (next {y = y} (astray c v live e n) ts) u d =
    let s : step v c ≡ nothing v = refused-nothing v c n in
    let k : live (step v c).world ≡ w = ap (λ (z : Did). live z.world) s ∙ e in
    let r = as_if ts u (d ∙ sym k) in
    (r.0, ap (λ (z : Did). behind z y) s ∙ r.1)

-- the calls on the live world are all that it did
pub as_if_not_made : {w : World} {x : Did} → Turns w x → (cs : List Call) × (x ≡ run w cs)
as_if_not_made {w} t = as_if t w refl

-- ---- from a set-up that is not refused

module _ (a : Wanted) (slots pool books : List ℕ) (ok : (set_up_call a slots pool books).number ≡ 0) {x : Did} (t : Turns (set_up_call a slots pool books).world x) where
  -- whatever is proved of every history holds of one with refused calls that were handed anything else
  pub over_turns : (P : Did → Type 0) → ((cs : List Call) → P (did a slots pool books ok cs)) → P x
  over_turns P h = let r = as_if_not_made t in rw r.1 (h r.0)

  -- DEMAND 3, to the letter
  pub turns_in_order : x.accepted ≡ joined x.taken ++ (queued_rows x.world ++ buffered_rows x.world)
  turns_in_order =
      over_turns (λ y. y.accepted ≡ joined y.taken ++ (queued_rows y.world ++ buffered_rows y.world)) (in_order_lem a slots pool books ok)

  pub turns_below_target : length (buffered_rows x.world) < a.target
  turns_below_target = over_turns (λ y. length (buffered_rows y.world) < a.target) (below_target a slots pool books ok)

  -- no call on the live world meets 1 or 14
  pub turns_never_refused : tested x.world ≡ 0
  turns_never_refused = over_turns (λ y. tested y.world ≡ 0) (λ cs. between-tested (all a slots pool books ok cs).between)
