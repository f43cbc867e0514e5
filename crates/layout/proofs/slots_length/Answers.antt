-- `layout::slots_length` meets its contract.
use borrow.Author.Rules.{rules}
use Rattle.layout.specs.ExitLaws.{slots_length_fits, slots_length_is}
use Rattle.layout.proofs.slots_length.Goals as goal

pub overflow_mul-result : goal.overflow_mul-result
overflow_mul-result c = search (slots_length_fits, rules)

pub returns : goal.returns
returns c = search (slots_length_is, rules)
