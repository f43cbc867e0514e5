-- `queries::is_empty` meets its contract.
use Rattle.std.proofs.Common.{◌∙◌, ne_eqb}
use borrow.Author.Rules.{rules}
use Rattle.queries.specs.QueryLaws.{empty-none, empty-some}
use Rattle.queries.proofs.is_empty.Goals as goal

pub returns-then-s-eq0 : goal.returns-then-s-eq0
returns-then-s-eq0 c = search (empty-none, rules)

pub returns-else-s-eq0 : goal.returns-else-s-eq0
returns-else-s-eq0 c = ne_eqb _ _ c.if-s-eq0.false ∙ empty-some _ c.if-s-eq0.false
