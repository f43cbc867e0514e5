-- `layout::cell_place` meets its contract.
use borrow.Author.Rules.{rules}
use Rattle.layout.specs.ExitLaws.{values_fit, cell_place_fits, cell_place_is, cell_place_small}
use Rattle.layout.proofs.cell_place.Goals as goal

pub overflow_mul-result : goal.overflow_mul-result
overflow_mul-result c = search (values_fit, rules)

pub overflow_add-result : goal.overflow_add-result
overflow_add-result c = search (cell_place_fits, rules)

pub returns : goal.returns
returns c = (search (cell_place_is, rules), search (cell_place_small, rules))
