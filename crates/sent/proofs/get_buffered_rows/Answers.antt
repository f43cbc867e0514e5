-- `sent::get_buffered_rows` meets its contract.
use borrow.Author.Rules.{rules}
use Rattle.byte_view.specs.FoldLaws.{bytes-known}
use Rattle.sent.specs.SentLaws.{rows-read}
use Rattle.sent.proofs.get_buffered_rows.Goals as goal

pub returns : goal.returns
returns c = search (rows-read, bytes-known, rules)
