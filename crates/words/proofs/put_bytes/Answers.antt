-- `words::put_bytes` meets its contract.
use borrow.Author.Rules.{rules}
use Rattle.words.specs.RunLaws.{put_part}
use Rattle.words.proofs.put_bytes.Goals as goal

pub returns : goal.returns
returns c = search (put_part, rules)
