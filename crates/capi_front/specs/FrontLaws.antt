-- The ways out of the call; and a refusal leaves `out`.
use Rattle.std.specs.Prelude.{ℕ, ◌≡◌, List}
use borrow.Author.Tests.{eq-eqb, ne_eqb}
use Rattle.state.specs.World.{world}
use Rattle.fronts.specs.Front.{front_call}
use Rattle.fronts.specs.declared.Front.{Front}
use Rattle.fronts.specs.Fronts.{FrontsCall}
use Rattle.codes.specs.declared.Coded.{Coded}
use Rattle.codes.specs.Code.{decoded}
use Rattle.crossing.specs.Cross.{pair}
use Rattle.capi.specs.Api.{Memory, memory, told, CodesNone}
use Rattle.capi_front.specs.Front.{front_read}

module _ (b slots pool books out : List ℕ) {d : Coded} (e : d ≡ decoded b) where
  pub front-told : {a : Front} {out' : List ℕ} {r : ℕ} → d.number ≡ 0 → FrontsCall (front_call (world d.state slots pool books) out) out' a → r ≡ pair a.number a.rows.0 → told r out' ≡ front_read (memory b slots pool books) out
  unfolding front_read
  front-told z p q = rw (← e, eq-eqb d.number 0 z, q, p.number_is, p.rows_are, p.out_is)

-- bytes that code no state
pub front_none : {m : Memory} {n r : ℕ} (out : List ℕ) → CodesNone m n → r ≡ pair n 0 → told r out ≡ front_read m out
unfolding front_read
front_none {m} out k p = rw (ne_eqb (decoded m.state).number 0 k.none, p, k.refusal_is)
