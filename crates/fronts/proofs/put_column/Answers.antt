-- `fronts::put_column` meets its contract.
use borrow.Author.Rules.{rules}
use Rattle.layout.specs.ExitLaws.{values_fit}
use Rattle.fronts.specs.PlacedLaws.{bitmap_fits, list-fits, column_is}
use Rattle.fronts.proofs.put_column.Goals as goal

pub overflow_mul-bitmap : goal.overflow_mul-bitmap
overflow_mul-bitmap c = search (values_fit, rules)

pub overflow_add-bitmap : goal.overflow_add-bitmap
overflow_add-bitmap c = search (bitmap_fits, rules)

pub overflow_add-list-2 : goal.overflow_add-list-2
overflow_add-list-2 c = search (list-fits, rules)

pub returns : goal.returns
returns c = search (column_is, rules)
