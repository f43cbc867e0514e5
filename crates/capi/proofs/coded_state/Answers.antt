-- `capi::coded_state` meets its contract.
use Rattle.capi.specs.ApiLaws.{codes_one, codes_none}
use borrow.Author.Rules.{rules}
use Rattle.capi.proofs.coded_state.Goals as goal

pub returns-then-coded-eq0 : goal.returns-then-coded-eq0
returns-then-coded-eq0 c = search (codes_one, rules)

pub returns-else-coded-eq0 : goal.returns-else-coded-eq0
returns-else-coded-eq0 c = search (codes_none, rules)
