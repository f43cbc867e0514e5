-- No refusal has the number 0.
use Rattle.std.specs.Prelude.{◌≡◌}
use Rattle.std.proofs.Common.{arith}
use Rattle.outs.specs.declared.refusals.StripFault.{StripFault}
use Rattle.outs.specs.declared.refusals.StripFault.TheVariants.{Length, NoCode}
use Rattle.outs.specs.declared.refusals.Refusal.{Refusal}
use Rattle.outs.specs.declared.refusals.Refusal.TheVariants.{OutOfRange, NotAbove, EighthOut, NobodyOut, OutAlready}
use Rattle.outs.specs.Answers.{fault_number, refusal_number}

pub fault_some : (f : StripFault) → fault_number f ≡ 0 → ⊥
fault_some Length e = omega arith
fault_some NoCode e = omega arith

pub refusal_some : (r : Refusal) → refusal_number r ≡ 0 → ⊥
refusal_some OutOfRange e = omega arith
refusal_some NotAbove e = omega arith
refusal_some EighthOut e = omega arith
refusal_some NobodyOut e = omega arith
refusal_some OutAlready e = omega arith
