-- `coalesce::push_batch` meets its contract.
use Rattle.std.specs.Prelude.{Ok}
use Rattle.std.proofs.Common.{◌∙◌, ap, refl}
use Rattle.coalesce.specs.ExactLaws.{push_goes, push_nothing, push_refused}
use Rattle.coalesce.specs.PushLaws.{ready}
use Rattle.coalesce.proofs.push_batch.Goals as goal

pub push_judged-requires : goal.push_judged-requires
push_judged-requires c = ready c.judge.ensures (c.in-Ok-true.is ∙ ap Ok c.in-Ok-true.field-0-test)

pub returns-in-Ok-true : goal.returns-in-Ok-true
returns-in-Ok-true c =
    push_goes c.judge.ensures (c.in-Ok-true.is ∙ ap Ok c.in-Ok-true.field-0-test) c.push_judged.ensures

pub returns-in-Ok-false : goal.returns-in-Ok-false
returns-in-Ok-false c = push_nothing c.judge.ensures (c.in-Ok-false.is ∙ ap Ok c.in-Ok-false.field-0-test)

pub returns-in-Err : goal.returns-in-Err
returns-in-Err c = push_refused c.in-Err.ensures refl
