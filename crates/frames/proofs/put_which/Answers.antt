-- `frames::put_which` meets its contract.
use borrow.Author.Rules.{rules}
use Rattle.frames.specs.BlockLaws.{which_laid}
use Rattle.frames.proofs.put_which.Goals as goal

pub returns : goal.returns
returns c = search (which_laid, rules)
