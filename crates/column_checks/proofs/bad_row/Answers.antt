-- `column_checks::bad_row` meets its contract.
use borrow.Author.Rules.{rules}
use Rattle.column_checks.specs.RowLaws.{row_room, bad_none, bad_more, bad_at_lem, bad_all}
use Rattle.column_checks.proofs.bad_row.Goals as goal

pub loop-i-init : goal.loop-i-init
loop-i-init c = search (bad_none, rules)

pub view_at-v-requires : goal.view_at-v-requires
view_at-v-requires c = search (row_room, rules)

pub loop-i-preserved : goal.loop-i-preserved
loop-i-preserved c = search (bad_more, rules)

pub returns-then-not-is_valid : goal.returns-then-not-is_valid
returns-then-not-is_valid c = search (bad_at_lem, rules)

pub returns : goal.returns
returns c = search (bad_all, rules)
