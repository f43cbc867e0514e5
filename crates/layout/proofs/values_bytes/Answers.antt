-- `layout::values_bytes` meets its contract.
use borrow.Author.Rules.{rules}
use Rattle.layout.specs.ExitLaws.{values_fit, values_is, values_small}
use Rattle.layout.proofs.values_bytes.Goals as goal

pub overflow_mul-result : goal.overflow_mul-result
overflow_mul-result c = search (values_fit, rules)

pub returns : goal.returns
returns c = (search (values_is, rules), search (values_small, rules))
