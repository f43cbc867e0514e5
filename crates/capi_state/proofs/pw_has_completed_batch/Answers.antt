-- `capi_state::pw_has_completed_batch` meets its contract.
use Rattle.capi.specs.ApiLaws.{completed_said}
use borrow.Author.Rules.{rules}
use Rattle.capi_state.proofs.pw_has_completed_batch.Goals as goal

pub returns : goal.returns
returns c = search (completed_said, rules)
