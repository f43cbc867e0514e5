-- `completed::drop_list` meets its contract.
use borrow.Author.Rules.{rules}
use Rattle.completed.specs.DropLaws.{off_none, off_slot, off_column, off_part, off_listed, off_is}
use Rattle.completed.proofs.drop_list.Goals as goal

pub list_length-n-requires : goal.list_length-n-requires
list_length-n-requires c = search (off_slot, rules)

pub returns-then-n-eq0 : goal.returns-then-n-eq0
returns-then-n-eq0 c = search (off_none, rules)

pub list_place-from-requires : goal.list_place-from-requires
list_place-from-requires c = search (off_slot, off_column, rules)

pub slice_bounds-unlist_all-end : goal.slice_bounds-unlist_all-end
slice_bounds-unlist_all-end c = search (off_part, rules)

pub unlist_all-requires : goal.unlist_all-requires
unlist_all-requires c = search (off_listed, rules)

pub returns : goal.returns
returns c = search (off_is, rules)
