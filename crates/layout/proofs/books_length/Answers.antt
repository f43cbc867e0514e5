-- `layout::books_length` meets its contract.
use borrow.Author.Rules.{rules}
use Rattle.layout.specs.ExitLaws.{tallies_fit, books_length_fits, books_length_is}
use Rattle.layout.proofs.books_length.Goals as goal

pub overflow_mul-result-3 : goal.overflow_mul-result-3
overflow_mul-result-3 c = search (tallies_fit, rules)

pub overflow_add-result-4 : goal.overflow_add-result-4
overflow_add-result-4 c = search (books_length_fits, rules)

pub returns : goal.returns
returns c = search (books_length_is, rules)
