-- Views that are raised behind an attached list have words of 32 bits; rows put by a later step, views put behind a column.
use Rattle.std.specs.Prelude.{ℕ, ◌+◌, ◌*◌, ◌≤◌, ◌<◌, ◌^◌, ◌≡◌, true, List, length}
use Rattle.std.proofs.Math.Path.{ap}
use Rattle.std.proofs.Common.{sym, ◌∙◌}
use native.Mathlib.Omega.{arith}
use Rattle.std.proofs.Math.Decide.{dec_lt}
use Rattle.words.specs.Frame.{Framed}
use Rattle.views.specs.declared.View.{View}
use Rattle.views.specs.View.{view_of, raised_by}
use Rattle.views.specs.StoreLaws.{ViewWords, view-fits}
use Rattle.views.specs.ShowLaws.{raise_inline, raise_long, long-says}
use Rattle.state.specs.World.{World}
use Rattle.state.specs.Layout.{width_of, is_views, cell_place}
use Rattle.state.proofs.LayoutLaws.{views_width, cell_in}
use Rattle.state.specs.Rows.{slot_cell}
use Rattle.rules.specs.Batch.{Batch, record_of, listed_number, listed_bytes, row_view}
use Rattle.rules.specs.Steps.{in_slots}
use Rattle.rules.specs.Copies.{views_put}
use Rattle.rules.specs.CopyLaws.{views_framed, views_read}
use Rattle.rules.specs.Views.{filling}
use Rattle.push_safety.specs.TestedLaws.{bounds_say}
use Rattle.invariant.specs.Holding.{reach, number_at, Holding}
use Rattle.invariant.specs.ByteLaws.{bytes_views}
use Rattle.invariant.proofs.CountLaws.{reach_most}
use Rattle.invariant.specs.Steps.Moves.{Moves, BitsStill, ReadableBatch, Extends}
use Rattle.invariant.proofs.Steps.MoveLaws.{moves_trans, batch_on, still_trans}
use Rattle.invariant.proofs.Steps.CopyMoves.{cells_still, cells_moves}
use Rattle.invariant.proofs.Steps.ValueMoves.{cell_add}

-- ---- rows put by a later step

pub extends_after : {w v u : World} {ext : ℕ → ℕ} {b : Batch} {c from n : ℕ} → Holding w ext → ReadableBatch w b → c < w.state.columns → from + n ≤ b.rows → Moves w ext v ext → BitsStill w v → Extends v ext b c from n u → Extends w ext b c from n u
extends_after {w} {v} {u} {ext} {b} {c} {from} {n} a x q h m s e =
    record {
      moves = moves_trans m e.moves;
      new = λ j l.
          ap (λ (s : ℕ). slot_cell u s c (ext c + j)) (sym m.beside.place) ∙ e.new j l
          ∙ batch_on x m a.run c (from + j) q (omega arith);
      still = still_trans m.beside s e.still;
    }

-- ---- n views put behind the rows of a column

module _ {w : World} {ext : ℕ → ℕ} (b : Batch) (c from n : ℕ) (a : Holding w ext) (q : c < w.state.columns) (y : is_views w.state c ≡ true) (h : ext c + n ≤ w.state.rows.0) (f : ℕ → View) (fits : (j : ℕ) → j < n → ViewWords (f j)) where
  abbrev to : ℕ
  to = cell_place w.state (filling w) c (ext c)

  abbrev pub put : List ℕ
  put = views_put f w.slots to n

  width : width_of w.state c ≡ 16
  width = views_width w.state c y

  pub put_framed : Framed to (to + n * width_of w.state c) w.slots put
  put_framed = rw width (views_framed f w.slots to n)

  room : to + n * 16 ≤ length w.slots
  room = omega (arith, rw width at (cell_in w.state (filling w) c a.run.fit.place q (ext c) n h), a.run.fit.slots_are)

  pub put_moves : Moves w ext (in_slots w put) ext
  put_moves = cells_moves put c (ext c) n a q (omega arith) h put_framed (bytes_views f w.slots to n fits)

  pub put_still : BitsStill w (in_slots w put)
  put_still = cells_still put c (ext c) n a q (omega arith) h put_framed

  pub put_view : (j : ℕ) → j < n → view_of put (cell_place w.state (filling w) c (ext c + j)) ≡ f j
  put_view j l =
      let e : cell_place w.state (filling w) c (ext c + j) ≡ to + j * 16 = rw width at (cell_add w.state (filling w) c (ext c) j) in
      ap (view_of put) e ∙ views_read f w.slots to n room fits j l

-- ---- raised views

raised-fits : (k : ℕ) (v : View) → ViewWords v → (12 < v.length → v.index + k < 2 ^ 32) → ViewWords (raised_by k v)
raised-fits k v f g = go (dec_lt 12 v.length)
  where
    go : Dec (12 < v.length) → ViewWords (raised_by k v)
    go (yes d) =
        rw (← (raise_long k v d))
        (record { length-fits = f.length-fits; prefix_fits = f.prefix_fits; index-fits = g d; offset_fits = f.offset_fits })
    go (no d) = rw (← (raise_inline k v (omega arith))) f

module _ {w : World} {ext : ℕ → ℕ} (b : Batch) (c k from n : ℕ) (a : Holding w ext) (x : ReadableBatch w b) (q : c < w.state.columns) (y : is_views w.state c ≡ true) (h : ext c + n ≤ w.state.rows.0) (m : from + n ≤ b.rows) (r : reach w w.state.place c ≡ k + (record_of b c).count) (numbers : (i : ℕ) → i < (record_of b c).count → number_at w w.state.place c (k + i) ≡ listed_number b c i) where
  abbrev pub raised : ℕ → View
  raised i = raised_by k (row_view w b c (from + i))

  abbrev place : ℕ
  place = w.state.place

  pub fits : (j : ℕ) → j < n → ViewWords (raised j)
  unfolding row_view
  fits j l =
      raised-fits k (row_view w b c (from + j)) (view-fits b.body _ x.bytes)
      (λ d.
      let p = long-says (row_view w b c (from + j)) (listed_bytes w b c) (record_of b c).count d (x.valid c (from + j) q y (omega arith)) in
      omega (arith, p.below, r, reach_most w place c a.run a.run.fit.place q, (bounds_say w.state a.run.fit.bounds).lists))
