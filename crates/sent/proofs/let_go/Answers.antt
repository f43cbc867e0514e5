-- `sent::let_go` meets its contract.
use borrow.Author.Rules.{rules}
use Rattle.byte_view.specs.FoldLaws.{bytes-known}
use Rattle.promise.specs.OnBytes.{sent_let_go}
use Rattle.sent.proofs.let_go.Goals as goal

pub returns : goal.returns
returns c = search (sent_let_go, bytes-known, rules)
