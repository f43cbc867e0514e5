-- `bits::joined` meets its contract.
use native.Mathlib.Omega.{arith}
use Rattle.bits.specs.CodeLaws.{joined_made}
use Rattle.bits.proofs.joined.Goals as goal

pub returns : goal.returns
returns c = joined_made _ _ _ (omega arith) (omega arith)
