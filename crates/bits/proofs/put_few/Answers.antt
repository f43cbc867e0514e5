-- `bits::put_few` meets its contract.
use borrow.Author.Rules.{rules}
use Rattle.bits.specs.CodeLaws.{with_bit_lem}
use Rattle.bits.proofs.put_few.Goals as goal

pub returns : goal.returns
returns c = search (with_bit_lem, rules)
