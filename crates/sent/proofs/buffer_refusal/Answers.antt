-- `sent::buffer_refusal` meets its contract.
use borrow.Author.Rules.{rules}
use Rattle.byte_view.specs.FoldLaws.{bytes-known}
use Rattle.sent.specs.SentLaws.{refusal_sent}
use Rattle.sent.proofs.buffer_refusal.Goals as goal

pub returns : goal.returns
returns c = search (refusal_sent, bytes-known, rules)
