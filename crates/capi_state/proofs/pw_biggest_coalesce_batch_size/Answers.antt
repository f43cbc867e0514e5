-- `capi_state::pw_biggest_coalesce_batch_size` meets its contract.
use Rattle.capi.specs.ApiLaws.{limit_said}
use borrow.Author.Rules.{rules}
use Rattle.capi_state.proofs.pw_biggest_coalesce_batch_size.Goals as goal

pub returns : goal.returns
returns c = search (limit_said, rules)
