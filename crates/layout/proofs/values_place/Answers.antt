-- `layout::values_place` meets its contract.
use borrow.Author.Rules.{rules}
use Rattle.layout.specs.ExitLaws.{slots_fit, values_place_fits, values_place_is, values_place_small}
use Rattle.layout.proofs.values_place.Goals as goal

pub overflow_mul-result : goal.overflow_mul-result
overflow_mul-result c = search (slots_fit, rules)

pub overflow_add-result : goal.overflow_add-result
overflow_add-result c = search (values_place_fits, rules)

pub returns : goal.returns
returns c = (search (values_place_is, rules), search (values_place_small, rules))
