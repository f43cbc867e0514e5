-- `capi_state::pw_get_buffered_rows` meets its contract.
use Rattle.capi.specs.ApiLaws.{rows-said}
use borrow.Author.Rules.{rules}
use Rattle.capi_state.proofs.pw_get_buffered_rows.Goals as goal

pub returns : goal.returns
returns c = search (rows-said, rules)
