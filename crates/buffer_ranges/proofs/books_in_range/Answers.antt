-- `buffer_ranges::books_in_range` meets its contract.
use borrow.Author.Rules.{rules}
use Rattle.pool.specs.ReadLaws.{range_over, range_fails, range_done}
use Rattle.buffer_ranges.proofs.books_in_range.Goals as goal

pub returns-then-n-used : goal.returns-then-n-used
returns-then-n-used c = search (range_over, rules)

pub returns-then-not-fits_in : goal.returns-then-not-fits_in
returns-then-not-fits_in c = search (range_fails, rules)

pub returns : goal.returns
returns c = search (range_done, rules)
