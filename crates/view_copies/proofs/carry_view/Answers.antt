-- `view_copies::carry_view` meets its contract.
use borrow.Author.Rules.{rules}
use Rattle.byte_view.specs.CopyLaws.{source_room, carry_is}
use Rattle.view_copies.proofs.carry_view.Goals as goal

pub carry-requires : goal.carry-requires
carry-requires c = (search (source_room, rules), search rules)

pub returns : goal.returns
returns c = search (carry_is, rules)
