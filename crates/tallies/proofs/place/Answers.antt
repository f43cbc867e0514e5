-- `tallies::place` meets its contract.
use borrow.Author.Rules.{rules}
use Rattle.tallies.specs.TallyLaws.{place_is}
use Rattle.tallies.proofs.place.Goals as goal

pub returns : goal.returns
returns c = search (place_is, rules)
