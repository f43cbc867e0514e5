-- `set_up::kind_at` meets its contract.
use borrow.Author.Rules.{rules}
use Rattle.set_up.specs.SetUpLaws.{kind_in, kind_past}
use Rattle.set_up.proofs.kind_at.Goals as goal

pub returns-then-c-columns : goal.returns-then-c-columns
returns-then-c-columns c = search (kind_in, rules)

pub returns-else-c-columns : goal.returns-else-c-columns
returns-else-c-columns c = search (kind_past, rules)
