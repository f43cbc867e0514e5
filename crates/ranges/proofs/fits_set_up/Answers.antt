-- `ranges::fits_set_up` meets its contract.
use borrow.Author.Rules.{rules}
use Rattle.ranges.specs.BoundsLaws.{few_bounds, fits_bounds, fits_are}
use Rattle.ranges.proofs.fits_set_up.Goals as goal

pub slots_length-requires : goal.slots_length-requires
slots_length-requires c = search (few_bounds, rules)

pub books_length-requires : goal.books_length-requires
books_length-requires c = search (few_bounds, rules)

pub returns-then-in_bounds : goal.returns-then-in_bounds
returns-then-in_bounds c = search (fits_are, rules)

pub returns-else-in_bounds : goal.returns-else-in_bounds
returns-else-in_bounds c = search (fits_bounds, rules)
