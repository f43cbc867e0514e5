-- `open_blocks::finish_current` meets its contract.
use borrow.Author.Rules.{rules}
use Rattle.open_blocks.specs.OpenLaws.{shut_none, shut_one}
use Rattle.open_blocks.specs.AskLaws.{booked_few, booked-column, booked-place, booked_books, booked_room}
use Rattle.open_blocks.proofs.finish_current.Goals as goal

pub column_of-column-requires : goal.column_of-column-requires
column_of-column-requires c = search (booked-column, rules)

pub list_number-requires : goal.list_number-requires
list_number-requires c = (search (booked_few, rules), search (booked-place, rules), search rules, search rules, search rules, search (booked_books, rules), search (booked_room, rules))

pub with_column-requires : goal.with_column-requires
with_column-requires c = search (booked-column, rules)

pub returns-in-None : goal.returns-in-None
returns-in-None c = search (shut_none, rules)

pub returns-in-Some : goal.returns-in-Some
returns-in-Some c = search (shut_one, rules)
