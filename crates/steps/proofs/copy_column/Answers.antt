-- `steps::copy_column` meets its contract.
use borrow.Author.Rules.{rules}
use Rattle.steps.specs.PartLaws.{column_record, column_part}
use Rattle.steps.proofs.copy_column.Goals as goal

pub record_at-r-requires : goal.record_at-r-requires
record_at-r-requires c = search (column_record, rules)

pub copy_rows-requires : goal.copy_rows-requires
copy_rows-requires c = (search (column_part, rules), search rules)
