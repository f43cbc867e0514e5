-- `match_rows::part` meets its contract.
use Rattle.match_rows.specs.ExitLaws.{part_rest, part_none}
use Rattle.words.specs.RunLaws.{part_read}
use borrow.Author.Rules.{rules}
use Rattle.match_rows.proofs.part.Goals as goal

pub returns-then-n-s : goal.returns-then-n-s
returns-then-n-s c = search (part_read, rules)

pub returns-else-n-s : goal.returns-else-n-s
returns-else-n-s c = search (part_rest, rules)

pub returns-else-from-s : goal.returns-else-from-s
returns-else-from-s c = search (part_none, rules)
