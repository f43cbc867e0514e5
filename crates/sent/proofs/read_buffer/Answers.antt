-- `sent::read_buffer` meets its contract.
use borrow.Author.Rules.{rules}
use Rattle.byte_view.specs.FoldLaws.{bytes-known}
use Rattle.sent.specs.SentLaws.{buffer_sent}
use Rattle.sent.proofs.read_buffer.Goals as goal

pub returns : goal.returns
returns c = search (buffer_sent, bytes-known, rules)
