-- The code's answers as numbers: 0 where there is no refusal, else the number that 01 and 02 give it.
use Rattle.std.specs.Prelude.{ℕ, Result, Ok, Err}
use Rattle.outs.specs.declared.refusals.StripFault.{StripFault}
use Rattle.outs.specs.declared.refusals.StripFault.TheVariants.{Length, NoCode}
use Rattle.outs.specs.declared.refusals.Refusal.{Refusal}
use Rattle.outs.specs.declared.refusals.Refusal.TheVariants.{OutOfRange, NotAbove, EighthOut, NobodyOut, OutAlready}
use Rattle.outs.specs.declared.refusals.NotTaken.{NotTaken}
use Rattle.outs.specs.declared.refusals.NotTaken.TheVariants.{Fault, Refused}

-- the strip's own memory: 1 where its length is another, 14 where it codes no strip
abbrev pub fault_number : StripFault → ℕ
fault_number Length = 1
fault_number NoCode = 14

-- 02, K6: "31 side, event, number or name null or out of range; 32 row number not above the last accepted row's; 33 an eighth out;
-- 34 revive with nobody out; 35 a name already out on that side"
abbrev pub refusal_number : Refusal → ℕ
refusal_number OutOfRange = 31
refusal_number NotAbove = 32
refusal_number EighthOut = 33
refusal_number NobodyOut = 34
refusal_number OutAlready = 35

-- of a call that tests or makes a strip
abbrev pub fault_of : Result (Unit {0}) StripFault → ℕ
fault_of (Ok _) = 0
fault_of (Err f) = fault_number f

-- of an event
abbrev pub refusal_of : Result (Unit {0}) Refusal → ℕ
refusal_of (Ok _) = 0
refusal_of (Err r) = refusal_number r

-- of an event in any bytes
abbrev pub not_taken : Result (Unit {0}) NotTaken → ℕ
not_taken (Ok _) = 0
not_taken (Err (Fault f)) = fault_number f
not_taken (Err (Refused r)) = refusal_number r
