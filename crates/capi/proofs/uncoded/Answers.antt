-- `capi::uncoded` meets its contract.
use Rattle.capi.specs.ApiLaws.{refuses_fits, refuses_one}
use borrow.Author.Rules.{rules}
use Rattle.capi.proofs.uncoded.Goals as goal

pub returns-then-fits_set_up : goal.returns-then-fits_set_up
returns-then-fits_set_up c = search (refuses_fits, rules)

pub returns-else-fits_set_up : goal.returns-else-fits_set_up
returns-else-fits_set_up c = search (refuses_one, rules)
