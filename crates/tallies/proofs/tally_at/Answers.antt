-- `tallies::tally_at` meets its contract.
use borrow.Author.Rules.{rules}
use Rattle.tallies.specs.TallyLaws.{tally_is}
use Rattle.tallies.proofs.tally_at.Goals as goal

pub returns : goal.returns
returns c = search (tally_is, rules)
