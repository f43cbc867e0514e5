-- `byte_view::actual_of` meets its contract.
use borrow.Author.Rules.{rules}
use Rattle.byte_view.specs.FoldLaws.{actual-none, actual-more, actual-all, entered_room}
use Rattle.byte_view.proofs.actual_of.Goals as goal

pub loop-i-init : goal.loop-i-init
loop-i-init c = search (actual-none, rules)

pub entry_at-e-requires : goal.entry_at-e-requires
entry_at-e-requires c = search (entered_room, rules)

pub loop-i-preserved : goal.loop-i-preserved
loop-i-preserved c = search (actual-more, rules)

pub returns : goal.returns
returns c = search (actual-all, rules)
