-- `bit_runs::append_bits` meets its contract.
use borrow.Author.Rules.{rules}
use Rattle.bit_runs.specs.RunLaws.{bits-parts}
use Rattle.bit_runs.proofs.append_bits.Goals as goal

pub returns : goal.returns
returns c = search (bits-parts, rules)
