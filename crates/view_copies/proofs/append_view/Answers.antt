-- `view_copies::append_view` meets its contract.
use borrow.Author.Rules.{rules}
use Rattle.byte_view.specs.CopyLaws.{copyable_index, copyable_source, copyable_room, copied_inline, copied-long, copyable_fits, copyable_put}
use Rattle.view_copies.proofs.append_view.Goals as goal

pub returns-then-v-le-MAX_INLINE_VIEW_LEN : goal.returns-then-v-le-MAX_INLINE_VIEW_LEN
returns-then-v-le-MAX_INLINE_VIEW_LEN c = search (copied_inline, rules)

pub carry_view-requires : goal.carry_view-requires
carry_view-requires c = search (copyable_index, copyable_source, copyable_room, rules)

pub put_view-requires-2 : goal.put_view-requires-2
put_view-requires-2 c = search (copyable_put, rules)

pub overflow_add-result : goal.overflow_add-result
overflow_add-result c = record { fits = copyable_fits c.requires c.view_at-v.ensures c.if-v-le-MAX_INLINE_VIEW_LEN.false }

pub returns : goal.returns
returns c = search (copied-long, rules)
