-- `tallies::put_tally` meets its contract.
use borrow.Author.Rules.{rules}
use Rattle.tallies.specs.TallyLaws.{with_is}
use Rattle.tallies.proofs.put_tally.Goals as goal

pub returns : goal.returns
returns c = search (with_is, rules)
