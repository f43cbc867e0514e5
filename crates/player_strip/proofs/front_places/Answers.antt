-- `player_strip::front_places` meets its contract.
use borrow.Author.Rules.{rules}
use Rattle.player_strip.specs.FrontLaws.{match_column, few_rows, few_lists, places_so, placed_at}
use Rattle.ranges.specs.Passed.{passed_few, passed_books, passed_place, passed_queued, passed_slot}
use Rattle.player_strip.proofs.front_places.Goals as goal

pub front_slot-slot-requires : goal.front_slot-slot-requires
front_slot-slot-requires c = search (passed_few, passed_place, passed_queued, rules)

pub list_length-count-requires : goal.list_length-count-requires
list_length-count-requires c = search (passed_few, passed_books, match_column, rules)

pub places_in-requires : goal.places_in-requires
places_in-requires c = search (passed_slot, few_rows, few_lists, rules)

pub returns : goal.returns
returns c = (search (places_so, rules), search (placed_at, rules))
