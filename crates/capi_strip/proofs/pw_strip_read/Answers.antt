-- `capi_strip::pw_strip_read` meets its contract.
use borrow.Author.Rules.{rules}
use Rattle.capi_strip.specs.StripApiLaws.{read-said, read_not}
use Rattle.capi_strip.proofs.pw_strip_read.Goals as goal

pub returns-then-coded-eq0 : goal.returns-then-coded-eq0
returns-then-coded-eq0 c = search (read-said, rules)

pub returns-else-coded-eq0 : goal.returns-else-coded-eq0
returns-else-coded-eq0 c = search (read_not, rules)
