-- `bit_runs::append_ones` meets its contract.
use borrow.Author.Rules.{rules}
use Rattle.bit_runs.specs.RunLaws.{ones-parts}
use Rattle.bit_runs.proofs.append_ones.Goals as goal

pub returns : goal.returns
returns c = search (ones-parts, rules)
