-- `sent::next_completed_batch` meets its contract.
use borrow.Author.Rules.{rules}
use Rattle.byte_view.specs.FoldLaws.{bytes-known}
use Rattle.promise.specs.OnBytes.{sent_drop}
use Rattle.sent.proofs.next_completed_batch.Goals as goal

pub returns : goal.returns
returns c = search (sent_drop, bytes-known, rules)
