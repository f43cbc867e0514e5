-- `bits::few` meets its contract.
use borrow.Author.Rules.{rules}
use Rattle.bits.specs.CodeLaws.{few_one, few_two}
use Rattle.bits.proofs.few.Goals as goal

pub returns-then-s-c-gt8 : goal.returns-then-s-c-gt8
returns-then-s-c-gt8 c = search (few_two, rules)

pub returns : goal.returns
returns c = search (few_one, rules)
