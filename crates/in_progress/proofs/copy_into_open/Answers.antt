-- `in_progress::copy_into_open` meets its contract.
use borrow.Author.Rules.{rules}
use Rattle.in_progress.specs.StringLaws.{block_open, block_at}
use Rattle.in_progress.specs.AskLaws.{part_column}
use Rattle.in_progress.proofs.copy_into_open.Goals as goal

pub column_of-column-requires : goal.column_of-column-requires
column_of-column-requires c = search (part_column, rules)

pub copy_strings-requires : goal.copy_strings-requires
copy_strings-requires c = (c.requires, block_at _ _ c.column_of-column.ensures (search rules))

pub returns-in-None : goal.returns-in-None
returns-in-None c = absurd (block_open c.requires c.column_of-column.ensures (search rules))
