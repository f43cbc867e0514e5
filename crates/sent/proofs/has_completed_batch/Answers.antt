-- `sent::has_completed_batch` meets its contract.
use borrow.Author.Rules.{rules}
use Rattle.byte_view.specs.FoldLaws.{bytes-known}
use Rattle.sent.specs.SentLaws.{completed_read}
use Rattle.sent.proofs.has_completed_batch.Goals as goal

pub returns : goal.returns
returns c = search (completed_read, bytes-known, rules)
