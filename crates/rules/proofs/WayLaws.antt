-- The way of a column of views, decided at exactly twice; and what a view of an attached part reads as.
use Rattle.std.specs.Prelude.{ℕ, ◌+◌, ◌*◌, ◌≤◌, ◌<◌, ◌≡◌, refl, length, ltb, eqb}
use Rattle.std.proofs.Common.{sym, ◌∙◌, arith, lt-ltb, ltb-true, eq-eqb, ne_eqb, eqb-true}
use Rattle.search.specs.Cases.{by_cond}
use Rattle.views.specs.View.{view_of, raised_by}
use Rattle.views.specs.StoreLaws.{ViewWords}
use Rattle.views.specs.ShowLaws.{raise_inline}
use Rattle.state.specs.World.{World}
use Rattle.state.specs.Layout.{cell_place}
use Rattle.rules.specs.declared.Way.{Way}
use Rattle.rules.specs.Batch.{Batch, row_view, way_of}
use Rattle.rules.specs.CopyLaws.{views_read}
use Rattle.rules.specs.Views.{span, filling, views_raised}

-- 01: "Ideal 0: views copied, list not attached. Actual > 2 x ideal: compact. .. Otherwise: .. attach the whole list"
pub way_attached : (id ac : ℕ) → (id ≡ 0 → ⊥) → ac ≤ 2 * id → Way.Attached ≡ way_of id ac
unfolding way_of
way_attached id ac h l =
    by_cond (λ y. Way.Attached ≡ y) (eqb id 0) (λ e. absurd (h (eqb-true id 0 e)))
    (λ e. by_cond (λ y. Way.Attached ≡ y) (ltb (2 * id) ac) (λ t. absurd (omega (arith, ltb-true (2 * id) ac t))) (λ t. refl))

pub way_compacted : (id ac : ℕ) → (id ≡ 0 → ⊥) → 2 * id < ac → Way.Compacted ≡ way_of id ac
unfolding way_of
way_compacted id ac h l = rw (ne_eqb id 0 h, lt-ltb (2 * id) ac l)

pub way-copied : (id ac : ℕ) → id ≡ 0 → Way.Copied ≡ way_of id ac
unfolding way_of
way-copied id ac h = rw (eq-eqb id 0 h)

-- 01: "add the earlier list length to the index of long views only": row j of n attached views, raised by k
module _ (w : World) (b : Batch) (c k at from n : ℕ) (room : cell_place w.state (filling w) c at + n * 16 ≤ length w.slots) (fits : (j : ℕ) → j < n → ViewWords (raised_by k (row_view w b c (from + j)))) where
  pub raised-view : (j : ℕ) → j < n → view_of (views_raised w b k (span c at from n)).slots (cell_place w.state (filling w) c at + j * 16) ≡ raised_by k (row_view w b c (from + j))
  unfolding views_raised
  raised-view j l = views_read (λ i. raised_by k (row_view w b c (from + i))) w.slots (cell_place w.state (filling w) c at) n room fits j l

  -- an inline view stands as it was: all four of its words
  pub raised_inline : (j : ℕ) → j < n → (row_view w b c (from + j)).length ≤ 12 → view_of (views_raised w b k (span c at from n)).slots (cell_place w.state (filling w) c at + j * 16) ≡ row_view w b c (from + j)
  raised_inline j l h = raised-view j l ∙ sym (raise_inline k (row_view w b c (from + j)) h)
