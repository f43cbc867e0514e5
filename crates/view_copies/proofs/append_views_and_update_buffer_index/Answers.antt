-- `view_copies::append_views_and_update_buffer_index` meets its contract.
use borrow.Author.Rules.{rules}
use Rattle.byte_view.specs.FoldLaws.{raising_none, raising_more, put_all, raises_at}
use Rattle.view_copies.proofs.append_views_and_update_buffer_index.Goals as goal

pub loop-i-init : goal.loop-i-init
loop-i-init c = search (raising_none, rules)

pub raise-requires : goal.raise-requires
raise-requires c = search (raises_at, rules)

pub loop-i-preserved : goal.loop-i-preserved
loop-i-preserved c = search (raising_more, rules)

pub returns : goal.returns
returns c = search (put_all, rules)
