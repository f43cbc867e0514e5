-- `capi_state::pw_is_empty` meets its contract.
use Rattle.capi.specs.ApiLaws.{empty-said}
use borrow.Author.Rules.{rules}
use Rattle.capi_state.proofs.pw_is_empty.Goals as goal

pub returns : goal.returns
returns c = search (empty-said, rules)
