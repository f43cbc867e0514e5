-- `frames::put_name` meets its contract.
use borrow.Author.Rules.{rules}
use Rattle.frames.specs.ShownLaws.{name_laid}
use Rattle.frames.proofs.put_name.Goals as goal

pub returns : goal.returns
returns c = search (name_laid, rules)
