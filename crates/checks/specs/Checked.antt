-- Faults, as the functions hand them on.
use Rattle.std.specs.Prelude.{ℕ, Bool, List, [], Option, Some, None, Result, Ok, Err}
use Rattle.std.specs.Prelude.{Option as First, None, Some}
use Rattle.state.specs.declared.BatchCoalescer.{BatchCoalescer}
use Rattle.state.specs.World.{world}
use Rattle.rules.specs.declared.Fault.{Fault}
use Rattle.rules.specs.Batch.{batch}
use Rattle.rules.specs.Checks.{is_fault, column_fault}

-- a fault at a column and a row
abbrev pub fault_at : ℕ → ℕ → ℕ → Fault
fault_at number column row = record { number = number; column = column; row = row }

-- the first fault, as the code answers it: a refusal
abbrev pub refused_by : First Fault → Result (Unit {0}) Fault
refused_by None = Ok tt
refused_by (Some f) = Err f

-- 7: the refusal by the first bad row
abbrev pub row_refused : ℕ → Option ℕ → Result (Unit {0}) Fault
row_refused c None = Ok tt
row_refused c (Some i) = Err (fault_at 7 c i)

-- column c is at fault
unfoldable pub faulty_at : BatchCoalescer → List ℕ → List ℕ → List ℕ → List ℕ → ℕ → ℕ → Bool
faulty_at s pool books records body rows c = is_fault (column_fault (world s [] pool books) (batch rows records body) c)
