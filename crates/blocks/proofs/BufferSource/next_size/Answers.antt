-- `blocks::BufferSource::next_size` meets its contract.
use borrow.Author.Rules.{rules}
use Rattle.blocks.specs.BlockLaws.{asked_is}
use Rattle.blocks.proofs.BufferSource.next_size.Goals as goal

pub returns : goal.returns
returns c = search (asked_is, rules)
