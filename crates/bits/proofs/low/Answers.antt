-- `bits::low` meets its contract.
use borrow.Author.Rules.{rules}
use Rattle.bits.specs.CodeLaws.{low_by_mask}
use Rattle.bits.proofs.low.Goals as goal

pub returns : goal.returns
returns c = search (low_by_mask, rules)
