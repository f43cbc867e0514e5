-- `frames::put_title` meets its contract.
use borrow.Author.Rules.{rules}
use Rattle.frames.specs.PieceLaws.{title_laid}
use Rattle.frames.proofs.put_title.Goals as goal

pub returns : goal.returns
returns c = search (title_laid, rules)
