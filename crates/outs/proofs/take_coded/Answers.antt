-- `outs::take_coded` meets its contract.
use mathlib.Core.Path.{refl, sym}
use Rattle.std.proofs.lemmas.Result.{err_from_is_err_and}
use Rattle.outs.specs.CodingLaws.{strip-length}
use Rattle.outs.specs.AnswersLaws.{refusal_some}
use Rattle.outs.proofs.TakeExits.{given_out_of_range, leaves_out_of_range}
use Rattle.outs.proofs.EventExits.{event_named, refused_number, refused_leaves, taken_leaves}
use Rattle.outs.proofs.take_coded.Goals as goal

pub refusal_for-requires : goal.refusal_for-requires
refusal_for-requires c = (strip-length _ c.requires, c.requires)

pub accept-requires : goal.accept-requires
accept-requires c =
    (strip-length _ c.requires, c.requires, event_named c.args.strip.now _ _ _ _ _ c.in-Some.ensures.0 c.in-Some.ensures.1, sym c.in_ok-refusal_for.ensures)

pub returns : goal.returns
returns c = (
  refused_number _ _ _ _ _ _ c.in-Some.ensures.0 c.in-Some.ensures.1 c.in_ok-refusal_for.ensures,
  taken_leaves _ _ _ _ _ _ c.in-Some.ensures.0 c.in-Some.ensures.1 c.in_ok-refusal_for.ensures c.accept.ensures,
)

pub returns-in_err-refusal_for : goal.returns-in_err-refusal_for
returns-in_err-refusal_for c =
    let p = err_from_is_err_and c.from_residual.result c.from_residual.ensures.1 in
    rw (p.1, p.2) (
      refused_number _ _ _ _ _ _ c.in-Some.ensures.0 c.in-Some.ensures.1 c.in_err-refusal_for.ensures,
      refused_leaves _ _ _ _ _ _ c.in-Some.ensures.0 c.in-Some.ensures.1 c.requires c.in_err-refusal_for.ensures (refusal_some _),
    )

pub returns-in_default : goal.returns-in_default
returns-in_default c =
    (given_out_of_range _ _ _ _ _ (sym c.in_default.ensures) refl, leaves_out_of_range _ _ _ _ _ c.requires (sym c.in_default.ensures) refl)
