-- `primitive::copy_values` meets its contract.
use borrow.Author.Rules.{rules}
use Rattle.primitive.specs.LaidLaws.{cells_there, values_in, values_laid_lem, rows_fit, start-fit}
use Rattle.primitive.proofs.copy_values.Goals as goal

pub overflow_mul-to : goal.overflow_mul-to
overflow_mul-to c = search (rows_fit, rules)

pub overflow_add-to : goal.overflow_add-to
overflow_add-to c = search (start-fit, rules)

pub overflow_mul-from : goal.overflow_mul-from
overflow_mul-from c = search (rows_fit, rules)

pub overflow_add-from : goal.overflow_add-from
overflow_add-from c = search (start-fit, rules)

pub overflow_mul-p : goal.overflow_mul-p
overflow_mul-p c = search (rows_fit, rules)

pub put_part-requires : goal.put_part-requires
put_part-requires c = (search (cells_there, rules), search (values_in, rules))

pub returns : goal.returns
returns c = search (values_laid_lem, rules)
