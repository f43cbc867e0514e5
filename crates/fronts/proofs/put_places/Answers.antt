-- `fronts::put_places` meets its contract.
use borrow.Author.Rules.{rules}
use Rattle.fronts.specs.FrontLaws.{places_are}
use Rattle.fronts.proofs.put_places.Goals as goal

pub returns : goal.returns
returns c = search (places_are, rules)
