-- `in_progress::append_views_and_copy_strings` meets its contract.
use borrow.Author.Rules.{rules}
use Rattle.in_progress.specs.CompactLaws.{compact_long, compact_new, compact_entry, compact_fits, compact_walks, compact_copied, compact_walked}
use Rattle.in_progress.specs.StringLaws.{block_at}
use Rattle.in_progress.specs.AskLaws.{part_column}
use Rattle.in_progress.proofs.append_views_and_copy_strings.Goals as goal

pub column_of-column-requires : goal.column_of-column-requires
column_of-column-requires c = part_column c.requires.0.part

pub open_and_copy-requires : goal.open_and_copy-requires
open_and_copy-requires c = (c.requires.0, compact_long c.requires.0 c.requires.1 c.column_of-column.ensures)

pub rest_of-rest-requires : goal.rest_of-rest-requires
rest_of-rest-requires c = compact_entry c.requires.0 c.requires.1 c.column_of-column.ensures (search rules)

pub copy_strings-requires : goal.copy_strings-requires
copy_strings-requires c = (compact_fits c.requires.0 c.requires.1 c.column_of-column.ensures (search rules) c.rest_of-rest.ensures (search rules), block_at _ _ c.column_of-column.ensures (search rules))

pub walk_on-requires : goal.walk_on-requires
walk_on-requires c = compact_walks c.requires.0 c.requires.1 c.column_of-column.ensures (search rules) c.rest_of-rest.ensures (search rules)

pub returns-in-None : goal.returns-in-None
returns-in-None c = compact_new c.requires.0 c.requires.1 c.column_of-column.ensures (search rules) c.open_and_copy.ensures

pub returns-then-ideal-rest : goal.returns-then-ideal-rest
returns-then-ideal-rest c = compact_copied c.requires.0 c.requires.1 c.column_of-column.ensures (search rules) c.rest_of-rest.ensures (search rules) c.copy_strings.ensures

pub returns-else-ideal-rest : goal.returns-else-ideal-rest
returns-else-ideal-rest c = compact_walked c.requires.0 c.requires.1 c.column_of-column.ensures (search rules) c.rest_of-rest.ensures (search rules) c.walk_on.ensures
