-- `player_strip::front_rows` meets its contract.
use borrow.Author.Rules.{rules}
use Rattle.player_strip.specs.FrontLaws.{count_none, count-front}
use Rattle.ranges.specs.Passed.{passed_few, passed_books, passed_place, passed_queued}
use Rattle.player_strip.proofs.front_rows.Goals as goal

pub returns-then-s-eq0 : goal.returns-then-s-eq0
returns-then-s-eq0 c = search (count_none, rules)

pub front_slot-slot-requires : goal.front_slot-slot-requires
front_slot-slot-requires c = search (passed_few, passed_place, passed_queued, rules)

pub rows_in-requires : goal.rows_in-requires
rows_in-requires c = search (passed_few, passed_books, rules)

pub returns : goal.returns
returns c = search (count-front, rules)
