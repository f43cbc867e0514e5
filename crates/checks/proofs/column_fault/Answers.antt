-- `checks::column_fault` meets its contract.
use borrow.Author.Rules.{rules}
use Rattle.checks.specs.ColumnLaws.{at-four, at_five, at_six, no_views, views_rows, rows_in_lem}
use Rattle.column_checks.specs.RuleLaws.{list_room, record_heeded}
use Rattle.checks.proofs.column_fault.Goals as goal

pub all_held-requires : goal.all_held-requires
all_held-requires c = (search rules, search (list_room, rules))

pub row_fault-requires : goal.row_fault-requires
row_fault-requires c =
    (record_heeded _ _ _ _ _ _ _ c.requires.0 c.keeps_rules.ensures c.if-not-keeps_rules.false c.lies_in_body.ensures c.if-not-lies_in_body.false c.all_held.ensures c.if-not-all_held.false, c.requires.3, rows_in_lem _ _ _ _ _ c.requires.5 c.width_in-width.ensures.0 c.lies_in_body.ensures c.if-not-lies_in_body.false c.is_view.ensures c.if-is_view.true)

pub returns-then-is_view : goal.returns-then-is_view
returns-then-is_view c = search (views_rows, rules)

pub returns-else-is_view : goal.returns-else-is_view
returns-else-is_view c = search (no_views, rules)

pub returns-then-not-all_held : goal.returns-then-not-all_held
returns-then-not-all_held c = search (at_six, rules)

pub returns-then-not-lies_in_body : goal.returns-then-not-lies_in_body
returns-then-not-lies_in_body c = search (at_five, rules)

pub returns-then-not-keeps_rules : goal.returns-then-not-keeps_rules
returns-then-not-keeps_rules c = search (at-four, rules)
