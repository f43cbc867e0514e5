-- `bit_runs::head_bits` meets its contract.
use borrow.Author.Rules.{rules}
use Rattle.bits.specs.Bits.{head_bits}
use Rattle.bit_runs.proofs.head_bits.Goals as goal

pub returns : goal.returns
unfolding head_bits
returns c = search rules
