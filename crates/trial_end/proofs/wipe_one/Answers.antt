-- `trial_end::wipe_one` meets its contract.
use borrow.Author.Rules.{rules}
use Rattle.room.specs.TrialLaws.{wiped-marked, wiped_not}
use Rattle.trial_end.proofs.wipe_one.Goals as goal

pub returns-then-e-eq2 : goal.returns-then-e-eq2
returns-then-e-eq2 c = search (wiped-marked, rules)

pub returns-else-e-eq2 : goal.returns-else-e-eq2
returns-else-e-eq2 c = search (wiped_not, rules)
