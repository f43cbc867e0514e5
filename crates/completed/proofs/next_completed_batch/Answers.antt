-- `completed::next_completed_batch` meets its contract.
use borrow.Author.Rules.{rules}
use Rattle.completed.specs.DropLaws.{drop-refused, drop-nothing, drop-done}
use Rattle.ranges.specs.Passed.{passed}
use Rattle.completed.proofs.next_completed_batch.Goals as goal

pub drop_front-requires : goal.drop_front-requires
drop_front-requires c = search (passed, rules)

pub returns-then-number-ne0 : goal.returns-then-number-ne0
returns-then-number-ne0 c = search (drop-refused, rules)

pub returns-then-s-gt0 : goal.returns-then-s-gt0
returns-then-s-gt0 c = search (drop-done, rules)

pub returns-else-s-gt0 : goal.returns-else-s-gt0
returns-else-s-gt0 c = search (drop-nothing, rules)
