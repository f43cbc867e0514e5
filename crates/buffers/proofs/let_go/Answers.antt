-- `buffers::let_go` meets its contract.
use borrow.Author.Rules.{rules}
use Rattle.ranges.specs.SaysLaws.{says_in_use}
use Rattle.buffers.specs.BufferLaws.{go_refused, go_done}
use Rattle.buffers.proofs.let_go.Goals as goal

pub let_go-requires : goal.let_go-requires
let_go-requires c = search (says_in_use, rules)

pub returns-then-number-eq0 : goal.returns-then-number-eq0
returns-then-number-eq0 c = search (go_done, rules)

pub returns-else-number-eq0 : goal.returns-else-number-eq0
returns-else-number-eq0 c = search (go_refused, rules)
