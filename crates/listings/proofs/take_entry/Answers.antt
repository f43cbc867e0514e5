-- `listings::take_entry` meets its contract.
use borrow.Author.Rules.{rules}
use Rattle.listings.specs.ListingLaws.{taken_in_use, taken_next}
use Rattle.listings.proofs.take_entry.Goals as goal

pub returns-then-used-i : goal.returns-then-used-i
returns-then-used-i c = search (taken_next, rules)

pub returns-else-used-i : goal.returns-else-used-i
returns-else-used-i c = search (taken_in_use, rules)
