-- `trial::room_refusal` meets its contract.
use native.Mathlib.Omega.{arith}
use Rattle.room.proofs.BackLaws.{tried_end_room, back_is}
use Rattle.trial.specs.NumberLaws.{room_answers}
use Rattle.trial.specs.SourcedLaws.{pushing_trying, pushing_triable, pushing-below}
use Rattle.trial_column.specs.TryingLaws.{trying_roomy}
use Rattle.trial.proofs.room_refusal.Goals as goal

pub get32-used-requires : goal.get32-used-requires
get32-used-requires c = omega (arith, (trying_roomy (pushing_trying c.requires.0)).room)

pub try_push-lacking-requires : goal.try_push-lacking-requires
try_push-lacking-requires c = (pushing_trying c.requires.0, pushing_triable c.requires.0 c.requires.1, pushing-below c.requires.0)

pub end_trial-requires : goal.end_trial-requires
end_trial-requires c = tried_end_room (trying_roomy (pushing_trying c.requires.0)) c.try_push-lacking.ensures.0

pub returns : goal.returns
returns c = (back_is (trying_roomy (pushing_trying c.requires.0)) c.requires.2 c.try_push-lacking.ensures.0 c.get32-used.ensures c.end_trial.ensures, room_answers c.requires.0 c.requires.1 c.requires.3 c.try_push-lacking.ensures.1)
