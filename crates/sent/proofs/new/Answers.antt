-- `sent::new` meets its contract.
use borrow.Author.Rules.{rules}
use Rattle.byte_view.specs.FoldLaws.{bytes-known}
use Rattle.sent.specs.SentLaws.{new_sent}
use Rattle.sent.proofs.new.Goals as goal

pub returns : goal.returns
returns c = search (new_sent, bytes-known, rules)
