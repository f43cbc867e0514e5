-- `view_copies::source_place` meets its contract.
use borrow.Author.Rules.{rules}
use Rattle.byte_view.specs.CopyLaws.{source_is}
use Rattle.byte_view.specs.FoldLaws.{entered_room, entered_listed}
use Rattle.view_copies.proofs.source_place.Goals as goal

pub get32-k-requires : goal.get32-k-requires
get32-k-requires c = search (entered_listed, rules)

pub entry_at-e-requires : goal.entry_at-e-requires
entry_at-e-requires c = search (entered_room, rules)

pub returns : goal.returns
returns c = search (source_is, rules)
