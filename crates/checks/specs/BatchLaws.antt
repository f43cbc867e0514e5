-- The exits of the checks of the batch: 2, 3, and the first column at fault.
use Rattle.std.specs.Prelude.{ℕ, ◌+◌, ◌*◌, ◌≤◌, ◌<◌, ◌≡◌, refl, false, List, [], length, Result, Ok, Err}
use Rattle.std.proofs.Common.{sym, ◌∙◌, ap, true≢false, arith}
use Rattle.std.specs.Prelude.{Option, None, Some}
use Rattle.search.specs.First.{Passed}
use Rattle.search.specs.FirstLaws.{passed_none, passed_more}
use Rattle.state.specs.declared.BatchCoalescer.{BatchCoalescer}
use Rattle.state.specs.World.{World, world}
use Rattle.rules.specs.declared.Fault.{Fault}
use Rattle.rules.specs.Batch.{Batch, batch}
use Rattle.rules.specs.Checks.{is_fault, column_fault, batch_fault}
use Rattle.rules.specs.ExitLaws.{batch_two, batch_three, batch-at, batch-none}
use Rattle.checks.specs.Checked.{fault_at, refused_by, faulty_at}

-- what was answered says whether there is one
fault-none : (o : Option Fault) {u : Unit {0}} → Ok u ≡ refused_by o → o ≡ None
fault-none None e = refl
fault-none (Some f) e = absurd (cc)

fault-some : (o : Option Fault) {f : Fault} → Err f ≡ refused_by o → o ≡ Some f
fault-some None e = absurd (cc)
fault-some (Some g) e = ap Some (sym (err_same e))
  where
    err_same : {f g : Fault} → ◌≡◌ {A = Result (Unit {0}) Fault} (Err f) (Err g) → f ≡ g
    err_same e = cc

not_fault : (o : Option Fault) → is_fault o ≡ false → o ≡ None
not_fault None e = refl
not_fault (Some f) e = absurd (true≢false e)

module _ (s : BatchCoalescer) (pool books records body : List ℕ) (rows : ℕ) where
  abbrev W : World
  W = world s [] pool books

  abbrev B : Batch
  B = batch rows records body

  pub wrong_records : {x : Result (Unit {0}) Fault} → (length records ≡ 32 * s.columns → ⊥) → x ≡ Err (fault_at 2 0 0) → x ≡ refused_by (batch_fault W B)
  wrong_records h q = q ∙ sym (ap refused_by (batch_two W B h))

  pub many_rows : {x : Result (Unit {0}) Fault} → length records ≡ 32 * s.columns → s.rows.0 < rows → x ≡ Err (fault_at 3 0 0) → x ≡ refused_by (batch_fault W B)
  many_rows e l q = q ∙ sym (ap refused_by (batch_three W B e l))

  -- the columns, one after another
  pub faulty_none : Passed (faulty_at s pool books records body rows) 0
  faulty_none = passed_none _

  pub faulty_more : {c : ℕ} {u : Unit {0}} → Passed (faulty_at s pool books records body rows) c → Ok u ≡ refused_by (column_fault W B c) → Passed (faulty_at s pool books records body rows) (c + 1)
  unfolding faulty_at
  faulty_more {c} o e = passed_more o (ap is_fault (fault-none (column_fault W B c) e))

  -- no column so far is at fault
  so_far : {c : ℕ} → Passed (faulty_at s pool books records body rows) c → (k : ℕ) → k < c → column_fault W B k ≡ None
  unfolding faulty_at
  so_far o k l = not_fault (column_fault W B k) (o.others k l)

  pub faulty_at_lem : {c : ℕ} {f : Fault} → length records ≡ 32 * s.columns → rows ≤ s.rows.0 → Passed (faulty_at s pool books records body rows) c → c < s.columns → Err f ≡ refused_by (column_fault W B c) → Err f ≡ refused_by (batch_fault W B)
  faulty_at_lem {c} {f} p q o l e = sym (ap refused_by (batch-at W B p q c f l (so_far o) (fault-some (column_fault W B c) e)))

  pub faulty_all : {c : ℕ} → length records ≡ 32 * s.columns → rows ≤ s.rows.0 → Passed (faulty_at s pool books records body rows) c → s.columns ≤ c → Ok tt ≡ refused_by (batch_fault W B)
  faulty_all p q o l = sym (ap refused_by (batch-none W B p q (λ k m. so_far o k (omega arith))))
