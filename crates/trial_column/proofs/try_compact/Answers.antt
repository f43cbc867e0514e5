-- `trial_column::try_compact` meets its contract.
use borrow.Author.Rules.{rules}
use Rattle.trial_truth.specs.TellLaws.{tells_new, tells_fits, tells_walked}
use Rattle.trial_column.specs.TryingLaws.{trying_column, trying_list, trying_block, closed_most, trying_roomy, column-none}
use Rattle.trial_column.proofs.try_compact.Goals as goal

pub list_closed-list-requires : goal.list_closed-list-requires
list_closed-list-requires c = trying_list c.requires.0 c.requires.1

pub column_of-block-requires : goal.column_of-block-requires
column_of-block-requires c = search (trying_column, rules)

pub try_buffer-requires : goal.try_buffer-requires
try_buffer-requires c = search (closed_most, rules)

pub rest_of-rest-requires : goal.rest_of-rest-requires
rest_of-rest-requires c = search (trying_block, rules)

pub try_buffer-requires-else-ideal-rest : goal.try_buffer-requires-else-ideal-rest
try_buffer-requires-else-ideal-rest c = search (closed_most, c.requires, c.list_closed-list.ensures, rules)

pub returns-in-None : goal.returns-in-None
returns-in-None c = (c.try_buffer.ensures.0, tells_new (trying_roomy c.requires.0) c.requires.1 c.requires.2 c.column_of-block.ensures c.list_closed-list.ensures.0 c.in-None.is c.try_buffer.ensures.1)

pub returns-then-ideal-rest : goal.returns-then-ideal-rest
returns-then-ideal-rest c = (column-none c.requires.0, tells_fits (trying_roomy c.requires.0) c.requires.1 c.requires.2 c.column_of-block.ensures (search rules) c.rest_of-rest.ensures c.if-ideal-rest.true)

pub returns-else-ideal-rest : goal.returns-else-ideal-rest
returns-else-ideal-rest c = (c.try_buffer-else-ideal-rest.ensures.0, tells_walked (trying_roomy c.requires.0) c.requires.1 c.requires.2 c.column_of-block.ensures c.in-Some.is c.rest_of-rest.ensures c.list_closed-list.ensures.0 c.if-ideal-rest.false c.walk-walked.ensures.0 c.try_buffer-else-ideal-rest.ensures.1)
