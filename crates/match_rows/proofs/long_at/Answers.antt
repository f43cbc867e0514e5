-- `match_rows::long_at` meets its contract.
use Rattle.match_rows.specs.ExitLaws.{long_is}
use borrow.Author.Rules.{rules}
use Rattle.match_rows.proofs.long_at.Goals as goal

pub returns : goal.returns
returns c = search (long_is, rules)
