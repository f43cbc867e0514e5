-- `trial_end::end_trial` meets its contract.
use borrow.Author.Rules.{rules}
use Rattle.room.specs.TrialLaws.{wiped-none, wiped-more, untried_is, trial_room}
use Rattle.trial_end.proofs.end_trial.Goals as goal

pub loop-i-init : goal.loop-i-init
loop-i-init c = search (wiped-none, rules)

pub wipe_one-requires : goal.wipe_one-requires
wipe_one-requires c = search (trial_room, rules)

pub loop-i-preserved : goal.loop-i-preserved
loop-i-preserved c = search (wiped-more, rules)

pub returns : goal.returns
returns c = search (untried_is, rules)
