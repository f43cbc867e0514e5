-- `sent::read_row` meets its contract.
use borrow.Author.Rules.{rules}
use Rattle.byte_view.specs.FoldLaws.{bytes-known}
use Rattle.sent.specs.SentLaws.{row_sent}
use Rattle.sent.proofs.read_row.Goals as goal

pub returns : goal.returns
returns c = search (row_sent, bytes-known, rules)
