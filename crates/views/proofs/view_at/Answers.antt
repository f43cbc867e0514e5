-- `views::view_at` meets its contract.
use borrow.Author.Rules.{rules}
use Rattle.views.specs.StoreLaws.{view_is}
use Rattle.views.proofs.view_at.Goals as goal

pub returns : goal.returns
returns c = search (view_is, rules)
