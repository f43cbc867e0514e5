-- `byte_view::way_of` meets its contract.
use borrow.Author.Rules.{rules}
use Rattle.rules.proofs.WayLaws.{way-copied, way_compacted, way_attached}
use Rattle.byte_view.proofs.way_of.Goals as goal

pub returns-then-ideal-eq0 : goal.returns-then-ideal-eq0
returns-then-ideal-eq0 c = search (way-copied, rules)

pub returns-then-ideal-actual : goal.returns-then-ideal-actual
returns-then-ideal-actual c = search (way_compacted, rules)

pub returns : goal.returns
returns c = search (way_attached, rules)
