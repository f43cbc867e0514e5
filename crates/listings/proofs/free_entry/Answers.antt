-- `listings::free_entry` meets its contract.
use borrow.Author.Rules.{rules}
use Rattle.listings.specs.ListingLaws.{free_room, freed_is}
use Rattle.listings.proofs.free_entry.Goals as goal

pub top_used-top-requires : goal.top_used-top-requires
top_used-top-requires c = search (free_room, rules)

pub returns : goal.returns
returns c = search (freed_is, rules)
