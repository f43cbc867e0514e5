-- `frames::put_head` meets its contract.
use borrow.Author.Rules.{rules}
use Rattle.frames.specs.PieceLaws.{head_laid}
use Rattle.frames.proofs.put_head.Goals as goal

pub returns : goal.returns
returns c = search (head_laid, rules)
