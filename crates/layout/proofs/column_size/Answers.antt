-- `layout::column_size` meets its contract.
use native.Mathlib.Omega.{arith}
use borrow.Author.Rules.{rules}
use Rattle.layout.specs.ExitLaws.{size-some, size_none, size_fits, sum_fits, values_fit}
use Rattle.layout.proofs.column_size.Goals as goal

pub overflow_mul-values : goal.overflow_mul-values
overflow_mul-values c = search (values_fit, rules)

pub overflow_add-result-then-is_view : goal.overflow_add-result-then-is_view
overflow_add-result-then-is_view c = sum_fits _ _ _ (omega arith) (omega arith) (omega arith)

pub overflow_add-result-else-is_view : goal.overflow_add-result-else-is_view
overflow_add-result-else-is_view c = sum_fits _ _ _ (omega arith) (omega arith) (omega arith)

pub returns-then-is_view : goal.returns-then-is_view
returns-then-is_view c = (search (size-some, rules), size_fits _ _ _ (omega arith) (omega arith) (omega arith))

pub returns-else-is_view : goal.returns-else-is_view
returns-else-is_view c = (search (size_none, rules), size_fits _ _ _ (omega arith) (omega arith) (omega arith))
