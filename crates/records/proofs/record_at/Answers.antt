-- `records::record_at` meets its contract.
use borrow.Author.Rules.{rules}
use Rattle.records.specs.RecordLaws.{record_is}
use Rattle.records.proofs.record_at.Goals as goal

pub returns : goal.returns
returns c = search (record_is, rules)
