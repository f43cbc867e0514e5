-- What the call on the front batch promises.
use Rattle.std.specs.Prelude.{ℕ, ◌≡◌, List}
use Rattle.fronts.specs.Front.{FrontAnswer}
use Rattle.fronts.specs.declared.Front.{Front}

-- the answer r and the bytes `out` are the call's
pub record FrontsCall (a : FrontAnswer) (out : List ℕ) (r : Front) : Type 0 where
  pub number_is : r.number ≡ a.number
  pub rows_are : r.rows.0 ≡ a.rows
  pub out_is : out ≡ a.out
