-- `bit_runs::append_whole` meets its contract.
use borrow.Author.Rules.{rules}
use Rattle.bit_runs.specs.RunLaws.{whole-moved}
use Rattle.bit_runs.proofs.append_whole.Goals as goal

pub returns-then-s-eq0 : goal.returns-then-s-eq0
returns-then-s-eq0 c = search (whole-moved, rules)

pub returns-else-s-eq0 : goal.returns-else-s-eq0
returns-else-s-eq0 c = search (whole-moved, rules)
