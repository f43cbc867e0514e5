-- What a row shows through the places of the front batch is what reading the row answers.
use Rattle.std.specs.Prelude.{ℕ, ◌+◌, ◌*◌, ◌<◌, ◌≡◌, cond, eqb}
use Rattle.std.proofs.Common.{eq-eqb, ne_eqb, lt-ltb}
use native.Mathlib.Omega.{arith}
use Rattle.std.proofs.Math.Decide.{ℕ_discrete}
use Rattle.state.specs.World.{World}
use Rattle.state.specs.Layout.{is_views, width_of, cell_place, rows_in}
use Rattle.state.specs.Rows.{listed_at, front_slot}
use Rattle.rules.specs.Ranges.{tested}
use Rattle.rules.specs.Calls.{view_answer, value_answer, is_row, read_row}
use Rattle.fronts.specs.Front.{front_refusal, front_rows, front_column, view_through, row_through}

-- what the call says where it is not refused
pub record Fronted (w : World) : Type 0 where
  pub passed : tested w ≡ 0
  pub some : w.state.queued ≡ 0 → ⊥

pub front-says : (w : World) → front_refusal w ≡ 0 → Fronted w
unfolding front_refusal
front-says w = go (ℕ_discrete (tested w) 0) (ℕ_discrete w.state.queued 0)
  where
    go : Dec (tested w ≡ 0) → Dec (w.state.queued ≡ 0) → cond (eqb (tested w) 0) (cond (eqb w.state.queued 0) 13 0) (tested w) ≡ 0 → Fronted w
    go (yes t) (no n) e = record { passed = t; some = n }
    go (yes t) (yes q) e = let z : ◌≡◌ {A = ℕ} 13 0 = rw (eq-eqb (tested w) 0 t, eq-eqb w.state.queued 0 q) at e in absurd (omega arith)
    go (no t) q e = absurd (t (rw (ne_eqb (tested w) 0 t) at e))

module _ (w : World) (c i : ℕ) where
  -- row i of a column stands i rows behind its first
  cell_at : cell_place w.state (front_slot w) c i ≡ cell_place w.state (front_slot w) c 0 + i * width_of w.state c
  unfolding cell_place
  cell_at = omega arith

-- THE THEOREM: a reader of these places shows the rows that reading them row by row answers
pub front_reads : (w : World) (c i : ℕ) → front_refusal w ≡ 0 → c < w.state.columns → i < front_rows w → read_row w c i ≡ row_through w.slots (is_views w.state c) (front_column w c) i
unfolding read_row is_row front_rows row_through view_through front_column value_answer view_answer listed_at
front_reads w c i z h l =
    let f = front-says w z in
    let m : i < rows_in w (front_slot w) = rw (eq-eqb (front_refusal w) 0 z) at l in
    rw (eq-eqb (tested w) 0 f.passed, lt-ltb 0 w.state.queued (some f), lt-ltb c w.state.columns h, lt-ltb i (rows_in w (front_slot w)) m, ← cell_at w c i)
  where
    some : Fronted w → 0 < w.state.queued
    some f = go (ℕ_discrete w.state.queued 0)
      where
        go : Dec (w.state.queued ≡ 0) → 0 < w.state.queued
        go (yes e) = absurd (f.some e)
        go (no n) = omega arith
