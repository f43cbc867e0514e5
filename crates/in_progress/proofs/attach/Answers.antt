-- `in_progress::attach` meets its contract.
use borrow.Author.Rules.{rules}
use Rattle.in_progress.specs.AttachLaws.{any_few, any_slot, any_below, any_books, any_within, any_ready, attach_part, attach_room, attach_list_is, attach_done, attach_full}
use Rattle.in_progress.proofs.attach.Goals as goal

pub list_closed-n-requires : goal.list_closed-n-requires
list_closed-n-requires c = (any_few c.requires, any_slot c.requires, any_below c.requires, any_books c.requires, any_within c.requires)

pub finish_current-t-requires : goal.finish_current-t-requires
finish_current-t-requires c = any_ready c.requires

pub attach_list-requires : goal.attach_list-requires
attach_list-requires c = (attach_part c.requires c.list_closed-n.ensures.0 (search rules) c.finish_current-t.ensures, attach_room c.requires c.list_closed-n.ensures.0 (search rules) c.finish_current-t.ensures, attach_list_is c.requires c.list_closed-n.ensures.0 (search rules) c.finish_current-t.ensures)

pub returns-then-n-r : goal.returns-then-n-r
returns-then-n-r c = attach_done c.requires c.list_closed-n.ensures.0 (search rules) c.finish_current-t.ensures c.attach_list.ensures

pub returns-else-n-r : goal.returns-else-n-r
returns-else-n-r c = attach_full c.requires c.list_closed-n.ensures.0 (search rules)
