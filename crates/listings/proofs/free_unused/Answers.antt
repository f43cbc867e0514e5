-- `listings::free_unused` meets its contract.
use borrow.Author.Rules.{rules}
use Rattle.listings.specs.ListingLaws.{unused_is, unused_not}
use Rattle.listings.proofs.free_unused.Goals as goal

pub returns-then-is_free : goal.returns-then-is_free
returns-then-is_free c = search (unused_is, rules)

pub returns-else-is_free : goal.returns-else-is_free
returns-else-is_free c = search (unused_not, rules)
