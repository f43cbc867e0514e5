-- `bit_runs::shift_whole` meets its contract.
use borrow.Author.Rules.{rules}
use Rattle.bits.specs.CodeLaws.{appended-none}
use Rattle.bit_runs.specs.RunLaws.{shift_more}
use Rattle.bit_runs.proofs.shift_whole.Goals as goal

pub loop-i-init : goal.loop-i-init
loop-i-init c = search (appended-none, rules)

pub loop-i-preserved : goal.loop-i-preserved
loop-i-preserved c = search (shift_more, rules)
