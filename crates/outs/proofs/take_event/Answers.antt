-- `outs::take_event` meets its contract.
use Rattle.std.specs.Prelude.{ℕ, ◌≡◌, true, List}
use mathlib.Core.Path.{refl}
use Rattle.std.proofs.lemmas.Result.{err_from_is_err_and}
use Rattle.outs.specs.Outs.{given_number, given_took}
use Rattle.outs.specs.Coding.{code_of, strip_of, is_strip, strip_fault, event_answer, event_leaves}
use Rattle.outs.specs.StripTests.{fault-says}
use Rattle.outs.specs.AnswersLaws.{fault_some}
use Rattle.outs.proofs.TakeExits.{any_answer, any_leaves, any_fault, any_stays}
use Rattle.outs.proofs.take_event.Goals as goal

-- behind the test of the bytes, what `take_coded` answers and leaves
answered : (b : List ℕ) (n d e : ℕ) (name : List ℕ) {r : ℕ} {t : List ℕ} → 0 ≡ strip_fault b → (r ≡ given_number (strip_of b) n d e name) × (t ≡ code_of (given_took (strip_of b) n d e name)) → (r ≡ event_answer b n d e name) × (t ≡ event_leaves b n d e name)
answered b n d e name q (a, l) = let h : is_strip b ≡ true = fault-says b q refl in (any_answer b name n d e h a, any_leaves b name n d e h l)

pub take_coded-requires : goal.take_coded-requires
take_coded-requires c = fault-says _ c.in_ok-strip_fault.ensures refl

pub returns-in_err-strip_fault : goal.returns-in_err-strip_fault
returns-in_err-strip_fault c =
    let p = err_from_is_err_and c.from_residual.result c.from_residual.ensures.1 in
    rw (p.1, p.2) (any_fault _ _ _ _ _ c.in_err-strip_fault.ensures (fault_some _), any_stays _ _ _ _ _ c.in_err-strip_fault.ensures (fault_some _))

pub returns-in_err-take_coded : goal.returns-in_err-take_coded
returns-in_err-take_coded c =
    let p = err_from_is_err_and c.from_residual-in_err-take_coded.result c.from_residual-in_err-take_coded.ensures.1 in
    rw (p.1, p.2) (answered _ _ _ _ _ c.in_ok-strip_fault.ensures c.in_err-take_coded.ensures)

pub returns : goal.returns
returns c = answered _ _ _ _ _ c.in_ok-strip_fault.ensures c.in_ok-take_coded.ensures
