-- `bits::ones_few` meets its contract.
use borrow.Author.Rules.{rules}
use Rattle.bits.specs.BitLaws.{ones_small}
use Rattle.bits.specs.CodeLaws.{appended-none, ones-fit, ones_value, put-run}
use Rattle.bits.proofs.ones_few.Goals as goal

pub returns-then-c-eq0 : goal.returns-then-c-eq0
returns-then-c-eq0 c = search (appended-none, rules)

pub put_few-requires : goal.put_few-requires
put_few-requires c = search (ones-fit, rules)

pub returns : goal.returns
returns c = search (put-run, ones_small, ones_value, rules)
