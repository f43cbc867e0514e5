-- `sent::finish_buffered_batch` meets its contract.
use borrow.Author.Rules.{rules}
use Rattle.byte_view.specs.FoldLaws.{bytes-known}
use Rattle.promise.specs.OnBytes.{sent_finish}
use Rattle.sent.proofs.finish_buffered_batch.Goals as goal

pub returns : goal.returns
returns c = search (sent_finish, bytes-known, rules)
