-- The call on the front batch, on bytes: the refusal in the upper half of the answer, or the rows in the lower.
use Rattle.std.specs.Prelude.{cond, List, ℕ, eqb}
use Rattle.fronts.specs.Front.{FrontAnswer, front_call}
use Rattle.codes.specs.Code.{decoded}
use Rattle.crossing.specs.Cross.{pair}
use Rattle.capi.specs.Api.{Memory, Told, told, world_in, uncoded}

abbrev pub front_told : FrontAnswer → Told
front_told a = told (pair a.number a.rows) a.out

-- bytes that code no state are refused, and `out` stays
unfoldable pub front_read : Memory → List ℕ → Told
front_read m out =
    cond (eqb (decoded m.state).number 0) (front_told (front_call (world_in m) out)) (told (pair (uncoded m) 0) out)
