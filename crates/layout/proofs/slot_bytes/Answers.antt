-- `layout::slot_bytes` meets its contract.
use borrow.Author.Rules.{rules}
use Rattle.layout.specs.ExitLaws.{slot_is}
use Rattle.layout.proofs.slot_bytes.Goals as goal

pub returns : goal.returns
returns c = (search (slot_is, rules), search rules)
