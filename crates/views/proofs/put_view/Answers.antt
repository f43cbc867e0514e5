-- `views::put_view` meets its contract.
use borrow.Author.Rules.{rules}
use Rattle.views.specs.StoreLaws.{put_is}
use Rattle.views.proofs.put_view.Goals as goal

pub returns : goal.returns
returns c = search (put_is, rules)
