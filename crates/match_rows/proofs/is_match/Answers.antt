-- `match_rows::is_match` meets its contract.
use Rattle.match_rows.specs.ExitLaws.{match_is}
use borrow.Author.Rules.{rules}
use Rattle.match_rows.proofs.is_match.Goals as goal

pub returns : goal.returns
returns c = search (match_is, rules)
