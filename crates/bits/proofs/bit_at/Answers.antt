-- `bits::bit_at` meets its contract.
use borrow.Author.Rules.{rules}
use Rattle.bits.specs.CodeLaws.{bit_of_run}
use Rattle.bits.proofs.bit_at.Goals as goal

pub returns : goal.returns
returns c = search (bit_of_run, rules)
