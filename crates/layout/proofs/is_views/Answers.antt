-- `layout::is_views` meets its contract.
use borrow.Author.Rules.{rules}
use Rattle.layout.specs.ExitLaws.{views_is}
use Rattle.layout.proofs.is_views.Goals as goal

pub returns : goal.returns
returns c = search (views_is, rules)
