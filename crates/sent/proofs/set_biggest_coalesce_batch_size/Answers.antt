-- `sent::set_biggest_coalesce_batch_size` meets its contract.
use borrow.Author.Rules.{rules}
use Rattle.byte_view.specs.FoldLaws.{bytes-known}
use Rattle.sent.specs.SentLaws.{limit_sent}
use Rattle.sent.proofs.set_biggest_coalesce_batch_size.Goals as goal

pub returns : goal.returns
returns c = search (limit_sent, bytes-known, rules)
