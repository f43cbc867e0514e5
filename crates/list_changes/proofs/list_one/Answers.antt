-- `list_changes::list_one` meets its contract.
use borrow.Author.Rules.{rules}
use Rattle.listings.specs.ListingLaws.{listed_is}
use Rattle.list_changes.proofs.list_one.Goals as goal

pub returns : goal.returns
returns c = search (listed_is, rules)
