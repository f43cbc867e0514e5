-- `frames::put_side` meets its contract.
use borrow.Author.Rules.{rules}
use native.Mathlib.Omega.{arith}
use Rattle.outs.specs.SideLaws.{coded-length}
use Rattle.frames.specs.BlockLaws.{side_laid}
use Rattle.frames.proofs.put_side.Goals as goal

pub get32-n-requires : goal.get32-n-requires
get32-n-requires c = omega (arith, coded-length _ c.requires.0)

pub returns : goal.returns
returns c = search (side_laid, rules)
