-- `steps::copy_and_finish` meets its contract.
use borrow.Author.Rules.{rules}
use Rattle.steps.specs.PartLaws.{taken_stop, taken_full, taken_closable}
use Rattle.steps.proofs.copy_and_finish.Goals as goal

pub finish_full-requires : goal.finish_full-requires
finish_full-requires c = search (taken_closable, rules)

pub returns-then-step-eq0 : goal.returns-then-step-eq0
returns-then-step-eq0 c = search (taken_full, rules)

pub returns-else-step-eq0 : goal.returns-else-step-eq0
returns-else-step-eq0 c = search (taken_stop, rules)
