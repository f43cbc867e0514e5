-- `bits::append_few` meets its contract.
use borrow.Author.Rules.{rules}
use Rattle.bits.specs.BitLaws.{bits_from_small}
use Rattle.bits.specs.CodeLaws.{appended-none, value_fits, put-moved}
use Rattle.bits.proofs.append_few.Goals as goal

pub returns-then-c-eq0 : goal.returns-then-c-eq0
returns-then-c-eq0 c = search (appended-none, rules)

pub put_few-requires : goal.put_few-requires
put_few-requires c = search (value_fits, bits_from_small, rules)

pub returns : goal.returns
returns c = search (put-moved, rules)
