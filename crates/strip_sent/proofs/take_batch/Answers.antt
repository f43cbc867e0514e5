-- `strip_sent::take_batch` meets its contract.
use borrow.Author.Rules.{rules}
use Rattle.byte_view.specs.FoldLaws.{bytes-known}
use Rattle.strip_story.specs.SentStrip.{take_sent}
use Rattle.strip_sent.proofs.take_batch.Goals as goal

pub returns : goal.returns
returns c = search (take_sent, bytes-known, rules)
