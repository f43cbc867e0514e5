-- `match_rows::long_name` meets its contract.
use Rattle.match_rows.specs.ExitLaws.{listed_room, name_listed, name_nowhere}
use borrow.Author.Rules.{rules}
use Rattle.match_rows.proofs.long_name.Goals as goal

pub buffer_name-requires : goal.buffer_name-requires
buffer_name-requires c = search (listed_room, rules)

pub returns-then-v-p : goal.returns-then-v-p
returns-then-v-p c = search (name_listed, rules)

pub returns-else-v-p : goal.returns-else-v-p
returns-else-v-p c = search (name_nowhere, rules)
