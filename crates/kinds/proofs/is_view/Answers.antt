-- `kinds::is_view` meets its contract.
use borrow.Author.Rules.{rules}
use Rattle.kinds.specs.KindLaws.{view_first, view_second}
use Rattle.kinds.proofs.is_view.Goals as goal

pub returns-then-kind-eq18 : goal.returns-then-kind-eq18
returns-then-kind-eq18 c = search (view_first, rules)

pub returns-else-kind-eq18 : goal.returns-else-kind-eq18
returns-else-kind-eq18 c = search (view_second, rules)
