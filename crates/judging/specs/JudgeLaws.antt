-- The exits of judge, and what a verdict says.
use Rattle.std.specs.Prelude.{ℕ, ◌≡◌, ◌≢◌, Bool, true, false, List, [], Result, Ok, Err}
use Rattle.std.proofs.Math.Path.{refl}
use Rattle.std.proofs.Common.{sym, ◌∙◌, ap}
use Rattle.std.specs.Prelude.{Option, None, Some}
use Rattle.std.proofs.Math.Decide.{ℕ_discrete}
use borrow.Author.Tests.{ne_eqb}
use Rattle.words.specs.WordLaws.{Bytes}
use Rattle.column_checks.specs.Tested.{Pooled}
use Rattle.column_checks.specs.RuleLaws.{pooled}
use Rattle.pool.specs.Read.{in_range}
use Rattle.ranges.specs.SaysLaws.{says_range, says-pool, says_entries}
use Rattle.state.specs.declared.BatchCoalescer.{BatchCoalescer}
use Rattle.state.specs.World.{World, world}
use Rattle.rules.specs.declared.Fault.{Fault}
use Rattle.rules.specs.Batch.{Batch, batch, value_place, row_view, listed_bytes}
use Rattle.rules.specs.Checks.{keeps_rules, lies_in_body, all_held, valid_row, bad_row, column_fault, batch_fault}
use Rattle.checks.specs.Checked.{refused_by}
use Rattle.rules.specs.Steps.{ok, refuse}
use Rattle.rules.specs.Push.{pushed, stepped}
use Rattle.rules.specs.Ranges.{tested}
use Rattle.judging.specs.Judging.{of_fault, verdict_of, Judges}

-- ---- the slots are not read

module _ (s : BatchCoalescer) (slots pool books slots' : List ℕ) where
  fault_beside : (b : Batch) → batch_fault (world s slots pool books) b ≡ batch_fault (world s slots' pool books) b
  unfolding batch_fault column_fault keeps_rules lies_in_body all_held bad_row valid_row value_place row_view listed_bytes
  fault_beside b = refl

-- ---- what the tests give

module _ (s : BatchCoalescer) (slots pool books : List ℕ) {n : ℕ} (e : n ≡ tested (world s slots pool books)) (z : n ≡ 0) where
  -- what the checks of a batch ask
  pub says_pooled : Pooled books pool
  says_pooled =
      pooled books pool s.numbers {x = true}
      (sym (ap (in_range books s.numbers) (says-pool s slots pool books e z) ∙ says_range s slots pool books e z))
      refl (says_entries s slots pool books e z)

-- ---- the exits of judge: n is what the tests answered

-- what the checks answered
go_is : (o : Option Fault) {u : Unit {0}} → Ok u ≡ refused_by o → Ok true ≡ of_fault o
go_is None e = refl
go_is (Some f) e = absurd (cc)

number_is : (o : Option Fault) {f : Fault} → Err f ≡ refused_by o → Err f.number ≡ of_fault o
number_is None e = absurd (cc)
number_is (Some g) {f} e = let q : f ≡ g = cc in rw q

module _ (s : BatchCoalescer) (slots pool books records body : List ℕ) (rows : ℕ) {n : ℕ} (e : n ≡ tested (world s slots pool books)) where
  pub judge_refused : (n ≡ 0 → ⊥) → Err n ≡ verdict_of (world s slots pool books) (batch rows records body)
  unfolding verdict_of
  judge_refused h = rw (← e, ne_eqb n 0 h)

  module _ (z : n ≡ 0) where
    pub judge_nothing : rows ≡ 0 → Ok false ≡ verdict_of (world s slots pool books) (batch rows records body)
    unfolding verdict_of
    judge_nothing q = rw (← e, z, q)

    module _ (m : rows ≡ 0 → ⊥) where
      judged : of_fault (batch_fault (world s [] pool books) (batch rows records body)) ≡ verdict_of (world s slots pool books) (batch rows records body)
      unfolding verdict_of
      judged = rw (← e, z, ne_eqb rows 0 m, fault_beside s [] pool books slots (batch rows records body))

      pub judge_go : {u : Unit {0}} → Ok u ≡ refused_by (batch_fault (world s [] pool books) (batch rows records body)) → Ok true ≡ verdict_of (world s slots pool books) (batch rows records body)
      judge_go q = go_is _ q ∙ judged

      pub judge_fault : {f : Fault} → Err f ≡ refused_by (batch_fault (world s [] pool books) (batch rows records body)) → Err f.number ≡ verdict_of (world s slots pool books) (batch rows records body)
      judge_fault q = number_is _ q ∙ judged

pub judges : {s : BatchCoalescer} {slots pool books : List ℕ} {b : Batch} {v : Result Bool ℕ} → v ≡ verdict_of (world s slots pool books) b → Bytes books → Judges s slots pool books b v
judges e b = record { verdict_is = e; bytes = b }

-- ---- what a verdict says

pub record MayGoOn (w : World) (b : Batch) : Type 0 where
  pub passed : tested w ≡ 0
  pub some : b.rows ≢ 0
  pub faultless : batch_fault w b ≡ None

module _ (w : World) (b : Batch) where
  -- one of the three, with what it says of the call
  pub data VerdictCase : Type 0 where
    refuses : (n : ℕ) → verdict_of w b ≡ Err n → pushed w b ≡ refuse n → VerdictCase
    nothing : verdict_of w b ≡ Ok false → pushed w b ≡ ok w → VerdictCase
    goes : verdict_of w b ≡ Ok true → MayGoOn w b → pushed w b ≡ stepped w b → VerdictCase

  pub verdict_case : VerdictCase
  unfolding verdict_of pushed
  verdict_case = go (ℕ_discrete (tested w) 0) (ℕ_discrete b.rows 0) (batch_fault w b) refl
    where
      go : Dec (tested w ≡ 0) → Dec (b.rows ≡ 0) → (o : Option Fault) → batch_fault w b ≡ o → VerdictCase
      go (no p) d o x = refuses (tested w) (rw (ne_eqb (tested w) 0 p)) (rw (ne_eqb (tested w) 0 p, pushed))
      go (yes p) (yes q) o x = nothing (rw (p, q)) (rw (p, q, pushed))
      go (yes p) (no q) None x =
          goes (rw (p, ne_eqb b.rows 0 q, x)) (record { passed = p; some = q; faultless = x }) (rw (p, ne_eqb b.rows 0 q, x, pushed))
      go (yes p) (no q) (Some f) x =
          refuses f.number (rw (p, ne_eqb b.rows 0 q, x)) (rw (p, ne_eqb b.rows 0 q, x, pushed))

  pub verdict_go : verdict_of w b ≡ Ok true → MayGoOn w b
  verdict_go e = go verdict_case
    where
      go : VerdictCase → MayGoOn w b
      go (refuses n x y) = absurd (cc)
      go (nothing x y) = absurd (cc)
      go (goes x g y) = g
