-- `capi_state::pw_set_biggest_coalesce_batch_size` meets its contract.
use Rattle.capi.specs.ApiLaws.{limit_not, limit_done}
use borrow.Author.Rules.{rules}
use Rattle.capi_state.proofs.pw_set_biggest_coalesce_batch_size.Goals as goal

pub returns-then-state-eq-STATE_BYTES : goal.returns-then-state-eq-STATE_BYTES
returns-then-state-eq-STATE_BYTES c = search (limit_done, rules)

pub returns-else-state-eq-STATE_BYTES : goal.returns-else-state-eq-STATE_BYTES
returns-else-state-eq-STATE_BYTES c = search (limit_not, rules)
