-- `columns::set_source` meets its contract.
use borrow.Author.Rules.{rules}
use Rattle.columns.specs.ExitLaws.{values_read, list_entered, source_views, source_other}
use Rattle.columns.proofs.set_source.Goals as goal

pub ideal_of-ideal-requires : goal.ideal_of-ideal-requires
ideal_of-ideal-requires c = search (values_read, rules)

pub actual_of-actual-requires : goal.actual_of-actual-requires
actual_of-actual-requires c = search (list_entered, rules)

pub returns-then-is_views : goal.returns-then-is_views
returns-then-is_views c = search (source_views, rules)

pub returns-else-is_views : goal.returns-else-is_views
returns-else-is_views c = search (source_other, rules)
