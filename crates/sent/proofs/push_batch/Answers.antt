-- `sent::push_batch` meets its contract.
use borrow.Author.Rules.{rules}
use Rattle.byte_view.specs.FoldLaws.{bytes-known}
use Rattle.sent.specs.SentLaws.{push_sent}
use Rattle.sent.proofs.push_batch.Goals as goal

pub returns : goal.returns
returns c = search (push_sent, bytes-known, rules)
