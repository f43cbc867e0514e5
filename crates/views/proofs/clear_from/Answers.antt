-- `views::clear_from` meets its contract.
use borrow.Author.Rules.{rules}
use Rattle.views.specs.PadLaws.{clear_above}
use Rattle.views.proofs.clear_from.Goals as goal

pub returns : goal.returns
returns c = search (clear_above, rules)
