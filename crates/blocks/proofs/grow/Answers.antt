-- `blocks::grow` meets its contract.
use native.Mathlib.Omega.{arith}
use borrow.Author.Rules.{rules}
use borrow.Author.Tests.{ltb-true}
use Rattle.blocks.specs.BlockLaws.{grown-turn, grown_min, grown-top}
use Rattle.blocks.proofs.grow.Goals as goal

pub loop-s-preserved : goal.loop-s-preserved
loop-s-preserved c = (omega (arith, ltb-true), omega (arith, ltb-true), search (grown-turn, rules))

pub returns-else-s-lt-MAX_BLOCK_SIZE : goal.returns-else-s-lt-MAX_BLOCK_SIZE
returns-else-s-lt-MAX_BLOCK_SIZE c = search (grown-top, rules)

pub returns-after-loop-s : goal.returns-after-loop-s
returns-after-loop-s c = search (grown_min, rules)
