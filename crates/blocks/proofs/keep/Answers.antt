-- `blocks::keep` meets its contract.
use borrow.Author.Rules.{rules}
use Rattle.blocks.specs.BlockLaws.{doubled_low, kept_grows, kept_stays}
use Rattle.blocks.proofs.keep.Goals as goal

pub grow-requires : goal.grow-requires
grow-requires c = search (doubled_low, rules)

pub returns-then-once-min : goal.returns-then-once-min
returns-then-once-min c = search (kept_grows, rules)

pub returns-else-once-min : goal.returns-else-once-min
returns-else-once-min c = search (kept_stays, rules)
