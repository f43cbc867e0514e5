-- `list_changes::release` meets its contract.
use borrow.Author.Rules.{rules}
use Rattle.listings.specs.ListingLaws.{released_is, word_room}
use Rattle.list_changes.proofs.release.Goals as goal

pub free_unused-requires : goal.free_unused-requires
free_unused-requires c = search (word_room, rules)

pub returns : goal.returns
returns c = search (released_is, rules)
