-- `slot_counts::rows_in` meets its contract.
use borrow.Author.Rules.{rules}
use Rattle.slot_counts.specs.CountLaws.{rows_is}
use Rattle.slot_counts.proofs.rows_in.Goals as goal

pub returns : goal.returns
returns c = search (rows_is, rules)
