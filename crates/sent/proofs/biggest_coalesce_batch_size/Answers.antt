-- `sent::biggest_coalesce_batch_size` meets its contract.
use borrow.Author.Rules.{rules}
use Rattle.byte_view.specs.FoldLaws.{bytes-known}
use Rattle.sent.specs.SentLaws.{limit_read_lem}
use Rattle.sent.proofs.biggest_coalesce_batch_size.Goals as goal

pub returns : goal.returns
returns c = search (limit_read_lem, bytes-known, rules)
