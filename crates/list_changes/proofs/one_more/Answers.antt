-- `list_changes::one_more` meets its contract.
use borrow.Author.Rules.{rules}
use Rattle.listings.specs.Listing.{one_more}
use Rattle.list_changes.proofs.one_more.Goals as goal

pub returns : goal.returns
unfolding one_more
returns c = search rules
