-- `sent::is_empty` meets its contract.
use borrow.Author.Rules.{rules}
use Rattle.byte_view.specs.FoldLaws.{bytes-known}
use Rattle.sent.specs.SentLaws.{empty-read}
use Rattle.sent.proofs.is_empty.Goals as goal

pub returns : goal.returns
returns c = search (empty-read, bytes-known, rules)
