-- `blocks::double` meets its contract.
use borrow.Author.Rules.{rules}
use Rattle.blocks.specs.BlockLaws.{doubled-below, doubled-top}
use Rattle.blocks.proofs.double.Goals as goal

pub returns-then-size-lt-MAX_BLOCK_SIZE : goal.returns-then-size-lt-MAX_BLOCK_SIZE
returns-then-size-lt-MAX_BLOCK_SIZE c = search (doubled-below, rules)

pub returns-else-size-lt-MAX_BLOCK_SIZE : goal.returns-else-size-lt-MAX_BLOCK_SIZE
returns-else-size-lt-MAX_BLOCK_SIZE c = search (doubled-top, rules)
