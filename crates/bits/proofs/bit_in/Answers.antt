-- `bits::bit_in` meets its contract.
use borrow.Author.Rules.{rules}
use Rattle.bits.specs.CodeLaws.{bit_by_mask}
use Rattle.bits.proofs.bit_in.Goals as goal

pub returns : goal.returns
returns c = search (bit_by_mask, rules)
