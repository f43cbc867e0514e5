-- `layout::column_of` meets its contract.
use borrow.Author.Rules.{rules}
use Rattle.state.specs.World.{column_of}
use Rattle.layout.proofs.column_of.Goals as goal

pub returns : goal.returns
unfolding column_of
returns c = search rules
