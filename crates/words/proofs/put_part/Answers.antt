-- `words::put_part` meets its contract.
use borrow.Author.Rules.{rules}
use Rattle.words.specs.RunLaws.{put-read}
use Rattle.words.proofs.put_part.Goals as goal

pub returns : goal.returns
returns c = search (put-read, rules)
