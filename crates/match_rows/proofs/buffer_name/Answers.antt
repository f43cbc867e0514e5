-- `match_rows::buffer_name` meets its contract.
use Rattle.match_rows.specs.ExitLaws.{buffer_name_is}
use borrow.Author.Rules.{rules}
use Rattle.match_rows.proofs.buffer_name.Goals as goal

pub returns : goal.returns
returns c = search (buffer_name_is, rules)
