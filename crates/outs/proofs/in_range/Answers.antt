-- `outs::in_range` meets its contract.
use borrow.Author.Rules.{rules}
use Rattle.outs.specs.Outs.{in_range, is_name}
use Rattle.outs.proofs.in_range.Goals as goal

pub returns : goal.returns
unfolding in_range is_name
returns c = search rules
