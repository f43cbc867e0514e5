-- `list_changes::unlist_all` meets its contract.
use borrow.Author.Rules.{rules}
use Rattle.listings.specs.ListingLaws.{over_none, over_more, unlisted_still}
use Rattle.list_changes.proofs.unlist_all.Goals as goal

pub loop-i-init : goal.loop-i-init
loop-i-init c = search (over_none, rules)

pub loop-i-preserved : goal.loop-i-preserved
loop-i-preserved c = search (over_more, unlisted_still, rules)
