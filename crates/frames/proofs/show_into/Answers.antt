-- `frames::show_into` meets its contract.
use borrow.Author.Rules.{rules}
use Rattle.words.specs.RunLaws.{copied_none}
use Rattle.frames.specs.ShownLaws.{showing_none, showing_more, shown-more, shown-all}
use Rattle.frames.proofs.show_into.Goals as goal

pub loop-i-init : goal.loop-i-init
loop-i-init c = search (copied_none, showing_none, rules)

pub loop-i-preserved : goal.loop-i-preserved
loop-i-preserved c = search (showing_more, shown-more, rules)

pub returns : goal.returns
returns c = search (shown-all, rules)
