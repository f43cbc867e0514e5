-- `frames::put_why` meets its contract.
use borrow.Author.Rules.{rules}
use Rattle.frames.specs.BlockLaws.{why_laid}
use Rattle.frames.specs.ReasonLaws.{reason_laid}
use Rattle.frames.proofs.put_why.Goals as goal

pub returns : goal.returns
returns c = search (why_laid, reason_laid, rules)
