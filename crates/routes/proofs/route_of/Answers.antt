-- `routes::route_of` meets its contract.
use borrow.Author.Rules.{rules}
use Rattle.routes.specs.RouteLaws.{route_small, route_whole, route_first, route_on}
use Rattle.routes.proofs.route_of.Goals as goal

pub returns-then-not-is_over : goal.returns-then-not-is_over
returns-then-not-is_over c = search (route_small, rules)

pub returns-then-s-eq0 : goal.returns-then-s-eq0
returns-then-s-eq0 c = search (route_whole, rules)

pub returns-then-is_over : goal.returns-then-is_over
returns-then-is_over c = search (route_first, rules)

pub returns-else-is_over : goal.returns-else-is_over
returns-else-is_over c = search (route_on, rules)
