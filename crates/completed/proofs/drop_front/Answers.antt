-- `completed::drop_front` meets its contract.
use borrow.Author.Rules.{rules}
use Rattle.byte_view.specs.FoldLaws.{bytes-known}
use Rattle.completed.specs.DropLaws.{droppable, front_off}
use Rattle.ranges.specs.Passed.{passed_few, passed_books, passed_books_still, passed_place, passed_queued}
use Rattle.completed.proofs.drop_front.Goals as goal

pub front_slot-slot-requires : goal.front_slot-slot-requires
front_slot-slot-requires c = search (passed_few, passed_place, passed_queued, rules)

pub rows_in-rows-requires : goal.rows_in-rows-requires
rows_in-rows-requires c = search (passed_few, passed_books, rules)

pub drop_lists-requires : goal.drop_lists-requires
drop_lists-requires c = search (droppable, bytes-known, rules)

pub uncount-requires : goal.uncount-requires
uncount-requires c = search (passed_few, passed_books_still, rules)

pub returns : goal.returns
returns c = search (front_off, rules)
