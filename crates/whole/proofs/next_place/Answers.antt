-- `whole::next_place` meets its contract.
use borrow.Author.Rules.{rules}
use Rattle.whole.specs.PlaceLaws.{place-column, place-fits, place-more}
use Rattle.whole.proofs.next_place.Goals as goal

pub bounds-s-c : goal.bounds-s-c
bounds-s-c c = search (place-column, rules)

pub overflow_add-result : goal.overflow_add-result
overflow_add-result c = search (place-fits, rules)

pub returns : goal.returns
returns c = search (place-more, rules)
