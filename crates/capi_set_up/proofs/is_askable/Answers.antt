-- `capi_set_up::is_askable` meets its contract.
use borrow.Author.Rules.{rules}
use Rattle.capi.specs.NewLaws.{asks_all}
use Rattle.capi_set_up.proofs.is_askable.Goals as goal

pub returns : goal.returns
returns c = search (asks_all, rules)
