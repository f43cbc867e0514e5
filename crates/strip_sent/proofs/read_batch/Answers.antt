-- `strip_sent::read_batch` meets its contract.
use borrow.Author.Rules.{rules}
use Rattle.byte_view.specs.FoldLaws.{bytes-known}
use Rattle.strip_story.specs.SentStrip.{read_sent}
use Rattle.strip_sent.proofs.read_batch.Goals as goal

pub returns : goal.returns
returns c = search (read_sent, bytes-known, rules)
