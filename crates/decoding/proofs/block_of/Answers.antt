-- `decoding::block_of` meets its contract.
use borrow.Author.Rules.{rules}
use Rattle.decoding.specs.ReadLaws.{block_closed, block_open}
use Rattle.decoding.proofs.block_of.Goals as goal

pub returns-then-open-eq0 : goal.returns-then-open-eq0
returns-then-open-eq0 c = search (block_closed, rules)

pub returns-else-open-eq0 : goal.returns-else-open-eq0
returns-else-open-eq0 c = search (block_open, rules)
