-- `rows::value_answer` meets its contract.
use borrow.Author.Rules.{rules}
use Rattle.layout.specs.PlaceLaws.{views_so}
use Rattle.rows.specs.RowLaws.{view_room, value_view, value_plain}
use Rattle.ranges.specs.Passed.{passed_few, passed_slot, passed_column, passed_index}
use Rattle.rows.proofs.value_answer.Goals as goal

pub cell_place-at-requires : goal.cell_place-at-requires
cell_place-at-requires c = search (passed_few, passed_slot, passed_column, passed_index, rules)

pub is_views-requires : goal.is_views-requires
is_views-requires c = search (passed_column, rules)

pub view_answer-requires : goal.view_answer-requires
view_answer-requires c = search (view_room, views_so, rules)

pub width_of-width-requires : goal.width_of-width-requires
width_of-width-requires c = search (passed_column, rules)

pub returns-then-is_views : goal.returns-then-is_views
returns-then-is_views c = search (value_view, rules)

pub returns-else-is_views : goal.returns-else-is_views
returns-else-is_views c = search (value_plain, rules)
