-- `whole::try_whole` meets its contract.
use native.Mathlib.Omega.{arith}
use borrow.Author.Rules.{rules}
use Rattle.whole.specs.RefusalLaws.{whole_nine, whole-first, whole-more, whole_ten, whole-none}
use Rattle.whole.proofs.try_whole.Goals as goal

pub returns-then-s : goal.returns-then-s
returns-then-s c = search (whole_nine, rules)

pub loop-c-init : goal.loop-c-init
loop-c-init c = (omega arith, search (whole-first, rules))

pub returns-then-s-n : goal.returns-then-s-n
returns-then-s-n c = search (whole_ten, rules)

pub loop-c-preserved : goal.loop-c-preserved
loop-c-preserved c = (omega arith, search (whole-more, rules))

pub returns : goal.returns
returns c = search (whole-none, rules)
