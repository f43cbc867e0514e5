-- `routes::is_over` meets its contract.
use borrow.Author.Rules.{rules}
use Rattle.routes.specs.RouteLaws.{over_some, over_none}
use Rattle.routes.proofs.is_over.Goals as goal

pub returns-in-Some : goal.returns-in-Some
returns-in-Some c = search (over_some, rules)

pub returns-in-None : goal.returns-in-None
returns-in-None c = search (over_none, rules)
