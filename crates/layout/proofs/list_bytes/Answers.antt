-- `layout::list_bytes` meets its contract.
use borrow.Author.Rules.{rules}
use Rattle.layout.specs.ExitLaws.{list-some, list-none}
use Rattle.layout.proofs.list_bytes.Goals as goal

pub returns-then-is_views : goal.returns-then-is_views
returns-then-is_views c = (search (list-some, rules), search rules)

pub returns-else-is_views : goal.returns-else-is_views
returns-else-is_views c = (search (list-none, rules), search rules)
