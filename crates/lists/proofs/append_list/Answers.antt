-- `lists::append_list` meets its contract.
use native.Mathlib.Omega.{arith}
use borrow.Author.Rules.{rules}
use Rattle.lists.specs.AppendLaws.{list_in_body, append-column, append_slot, append-fits, append_room, append-done, append-listed}
use Rattle.lists.proofs.append_list.Goals as goal

pub list_length-n-requires : goal.list_length-n-requires
list_length-n-requires c = (c.requires.0.few, c.requires.0.place, c.requires.0.column, c.requires.0.books_are)

pub list_place-place-requires : goal.list_place-place-requires
list_place-place-requires c = (c.requires.0.few, append_slot c.requires.0 c.requires.1, append-column c.requires.0 c.requires.1)

pub put_part-requires : goal.put_part-requires
put_part-requires c = (append_room c.requires.0 c.requires.1 c.list_length-n.ensures c.list_place-place.ensures.0, list_in_body c.requires.0 c.requires.1)

pub slice_bounds-list_all-end : goal.slice_bounds-list_all-end
slice_bounds-list_all-end c = search (list_in_body, rules)

pub list_all-requires : goal.list_all-requires
list_all-requires c = append-listed c.requires.0 c.requires.1

pub overflow_add-n : goal.overflow_add-n
overflow_add-n c = omega (arith, append-fits c.requires.0 c.requires.1 c.list_length-n.ensures)

pub put_list_length-requires : goal.put_list_length-requires
put_list_length-requires c = (c.requires.0.few, c.requires.0.place, c.requires.0.column, omega (arith, c.list_all.auto, c.requires.0.books_are))

pub returns : goal.returns
returns c = append-done c.requires.0 c.requires.1 c.list_length-n.ensures c.list_place-place.ensures.0 c.put_part.ensures c.list_all.ensures c.put_list_length.ensures
