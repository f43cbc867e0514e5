-- `open_blocks::next_buffer` meets its contract.
use borrow.Author.Rules.{rules}
use Rattle.open_blocks.specs.OpenLaws.{open_full, open_chosen}
use Rattle.open_blocks.specs.AskLaws.{booked_few, booked-place, booked_books}
use Rattle.open_blocks.proofs.next_buffer.Goals as goal

pub list_length-n-requires : goal.list_length-n-requires
list_length-n-requires c = (search (booked_few, rules), search (booked-place, rules), search rules, search (booked_books, rules))

pub returns-then-n-s : goal.returns-then-n-s
returns-then-n-s c = search (open_chosen, rules)

pub returns-else-n-s : goal.returns-else-n-s
returns-else-n-s c = search (open_full, rules)
