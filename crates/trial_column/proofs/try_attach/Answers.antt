-- `trial_column::try_attach` meets its contract.
use borrow.Author.Rules.{rules}
use Rattle.trial_truth.specs.TellLaws.{tells_attached, tells_full}
use Rattle.trial_column.specs.ShutLaws.{column-shut}
use Rattle.trial_column.specs.TryingLaws.{trying_column, trying_list, column-none}
use Rattle.trial_column.proofs.try_attach.Goals as goal

pub list_closed-n-requires : goal.list_closed-n-requires
list_closed-n-requires c = trying_list c.requires.0 c.requires.1

pub column_of-requires : goal.column_of-requires
column_of-requires c = search (trying_column, rules)

pub with_column-t-requires : goal.with_column-t-requires
with_column-t-requires c = search (trying_column, rules)

pub returns-then-n-r : goal.returns-then-n-r
returns-then-n-r c = (search (column-shut, rules), tells_attached c.requires.1 c.list_closed-n.ensures.0 c.if-n-r.true c.column_of.ensures c.with_column-t.ensures)

pub returns-else-n-r : goal.returns-else-n-r
returns-else-n-r c = (column-none c.requires.0, tells_full c.requires.1 c.list_closed-n.ensures.0 c.if-n-r.false)
