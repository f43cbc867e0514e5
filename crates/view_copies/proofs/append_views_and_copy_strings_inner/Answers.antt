-- `view_copies::append_views_and_copy_strings_inner` meets its contract.
use borrow.Author.Rules.{rules}
use Rattle.byte_view.specs.CopyLaws.{copyable_at, copied_none, copied_more, far_all, pool-all}
use Rattle.byte_view.specs.FoldLaws.{put_all}
use Rattle.view_copies.proofs.append_views_and_copy_strings_inner.Goals as goal

pub loop-i-init : goal.loop-i-init
loop-i-init c = search (copied_none, rules)

pub append_view-so_far-requires : goal.append_view-so_far-requires
append_view-so_far-requires c = search (copyable_at, rules)

pub loop-i-preserved : goal.loop-i-preserved
loop-i-preserved c = search (copied_more, rules)

pub returns : goal.returns
returns c = (search (far_all, rules), search (put_all, rules), search (pool-all, rules))
