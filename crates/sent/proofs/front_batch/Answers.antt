-- `sent::front_batch` meets its contract.
use borrow.Author.Rules.{rules}
use Rattle.byte_view.specs.FoldLaws.{bytes-known}
use Rattle.sent.specs.SentLaws.{front_sent}
use Rattle.sent.proofs.front_batch.Goals as goal

pub returns : goal.returns
returns c = search (front_sent, bytes-known, rules)
