-- The block of a column closed on trial.
use Rattle.std.specs.Prelude.{ℕ, ◌<◌, ◌≡◌, refl, List}
use Rattle.std.proofs.Common.{arith}
use Rattle.counts.specs.declared.BufferNumber.{BufferNumber}
use Rattle.state.specs.declared.BatchCoalescer.{BatchCoalescer}
use Rattle.state.specs.declared.Column.{Column}
use Rattle.room.proofs.BackLaws.{tried-none}
use Rattle.state.specs.World.{column_of}
use Rattle.rules.specs.Stays.{same-column}
use Rattle.rules.specs.Steps.{with_column}
use Rattle.push_safety.specs.StepGoes.{with_column_goes}
use Rattle.trial_column.specs.Trying.{Trying, TriesColumn}
use Rattle.trial_column.specs.TryingLaws.{trying_roomy}
use Rattle.std.specs.Prelude.{Some, None}

-- no block is none
pub not_number : (k : BufferNumber) → None ≡ Some k → ⊥
not_number k q = let z : ◌≡◌ {A = ℕ} 0 1 = cc in omega arith

-- attach on trial: the block of a column closed
pub column-shut : {s : BatchCoalescer} {books : List ℕ} {c : ℕ} {k : Column} {t : BatchCoalescer} → Trying s books → c < s.columns → k ≡ column_of s c → t ≡ with_column s c k.source None → TriesColumn s books t books
column-shut {s} {books} {c} {k} {t} x h e q = rw (q, e) shut
  where
    shut : TriesColumn s books (with_column s c (column_of s c).source None) books
    shut =
        record {
          tries =
              record {
                set_up = same-column s c (column_of s c).source None;
                marks = tried-none (trying_roomy x) x.run.used;
                trying =
                    record {
                      slots = x.slots;
                      pool = x.pool;
                      run =
                          (with_column_goes c (column_of s c).source None x.run (λ p y. x.run.kept c h y) (λ j o. absurd (not_number j o))).run;
                    };
              };
          buffered = refl;
        }
