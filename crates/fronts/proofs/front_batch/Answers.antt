-- `fronts::front_batch` meets its contract.
use borrow.Author.Rules.{rules}
use Rattle.ranges.specs.SaysLaws.{says_few, says-place, says_queued, says_books}
use Rattle.ranges.specs.Passed.{passed}
use Rattle.fronts.specs.FrontLaws.{front_short, front-tested, front-none, front-done}
use Rattle.fronts.proofs.front_batch.Goals as goal

pub returns-then-out-ne512 : goal.returns-then-out-ne512
returns-then-out-ne512 c = search (front_short, rules)

pub returns-then-number-ne0 : goal.returns-then-number-ne0
returns-then-number-ne0 c = search (front-tested, rules)

pub returns-then-s-eq0 : goal.returns-then-s-eq0
returns-then-s-eq0 c = search (front-none, rules)

pub front_slot-slot-requires : goal.front_slot-slot-requires
front_slot-slot-requires c = search (says_few, says-place, says_queued, rules)

pub put_columns-requires : goal.put_columns-requires
put_columns-requires c = search (passed, rules)

pub rows_in-rows-requires : goal.rows_in-rows-requires
rows_in-rows-requires c = search (says_few, says_books, rules)

pub returns : goal.returns
returns c = search (front-done, rules)
