-- `trial::close_one` meets its contract.
use borrow.Author.Rules.{rules}
use Rattle.trial.specs.CloseLaws.{close_views, close_other}
use Rattle.trial.proofs.close_one.Goals as goal

pub returns-then-is_views : goal.returns-then-is_views
returns-then-is_views c = search (close_views, rules)

pub returns-else-is_views : goal.returns-else-is_views
returns-else-is_views c = search (close_other, rules)
