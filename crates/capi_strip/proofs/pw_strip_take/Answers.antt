-- `capi_strip::pw_strip_take` meets its contract.
use borrow.Author.Rules.{rules}
use Rattle.capi.specs.ApiLaws.{decoded-length}
use Rattle.capi_strip.specs.StripApiLaws.{taken-said, taken_not}
use Rattle.capi_strip.proofs.pw_strip_take.Goals as goal

pub keep-refusal-requires : goal.keep-refusal-requires
keep-refusal-requires c = search (decoded-length, rules)

pub returns-then-coded-eq0 : goal.returns-then-coded-eq0
returns-then-coded-eq0 c = search (taken-said, rules)

pub returns-else-coded-eq0 : goal.returns-else-coded-eq0
returns-else-coded-eq0 c = search (taken_not, rules)
