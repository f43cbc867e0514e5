-- Rows of a batch that stand behind the rows of a column: with their bits they read as the batch's.
use Rattle.std.specs.Prelude.{ℕ, ◌+◌, ◌≤◌, ◌<◌, ◌≡◌, true, false}
use Rattle.std.proofs.Common.{sym, ◌∙◌, ap, arith}
use Rattle.words.specs.Run.{read}
use Rattle.bits.specs.Bits.{bits_from}
use Rattle.views.specs.View.{view_of, is_valid}
use Rattle.views.specs.ShowLaws.{Keeps}
use Rattle.state.specs.World.{World}
use Rattle.state.specs.Layout.{width_of, is_views, bitmap_place, cell_place}
use Rattle.state.specs.Rows.{buffer_at, slot_cell}
use Rattle.rules.specs.Batch.{Batch, row_view, listed_bytes, value_place, batch_cell}
use Rattle.rules.specs.Views.{filling}
use Rattle.rules.specs.Stays.{SameSetUp}
use Rattle.rules.specs.SameLaws.{same_width, same_views, same_cell_place}
use Rattle.invariant.specs.Holding.{reach, Holding}
use Rattle.invariant.proofs.Rests.{cell_is}
use Rattle.invariant.specs.Steps.Moves.{Moves, BitsStill, Laid, Extends}
use Rattle.invariant.proofs.Steps.MoveLaws.{more_least, holding-more}

-- the value of row i of column c of the batch stands at row j of the slot that is being filled
pub record Stored (w v : World) (b : Batch) (c i j : ℕ) : Type 0 where
  pub shown : is_views w.state c ≡ true → Keeps (row_view w b c i) (listed_bytes w b c) (view_of v.slots (cell_place w.state (filling w) c j)) (buffer_at v (filling w) c) (reach v (filling w) c)
  pub plain : is_views w.state c ≡ false → read (cell_place w.state (filling w) c j) (width_of w.state c) v.slots ≡ read (value_place w b c i) (width_of w.state c) b.body

-- the same rows, of a world whose holding is known with more of them
pub moves_more : {w v : World} {ext ext' ext'' : ℕ → ℕ} → Moves w ext v ext' → ((c : ℕ) → ext c ≤ ext'' c) → Holding v ext'' → Moves w ext v ext''
moves_more m g a =
    record { holding = a; goes = m.goes; beside = m.beside; grows = g; rows = m.rows; cells = m.cells; bytes = m.bytes; stands = m.stands; pool = m.pool }

module _ {w v : World} {ext : ℕ → ℕ} (b : Batch) (c from n : ℕ) (m : Moves w ext v ext) (q : c < w.state.columns) (h : ext c + n ≤ w.state.rows.0) (l : Laid v b c (ext c) from n) (s : (j : ℕ) → j < n → Stored w v b c (from + j) (ext c + j)) (t : BitsStill w v) where
  e : SameSetUp w.state v.state
  e = m.beside.set_up

  new_cell : (j : ℕ) → j < n → slot_cell v (filling w) c (ext c + j) ≡ batch_cell w b c (from + j)
  unfolding slot_cell batch_cell row_view
  new_cell j k =
      rw (same_views e c, same_cell_place e (filling w) c (ext c + j), same_width e c)
      (cell_is (is_views w.state c) b.body v.slots (value_place w b c (from + j)) (cell_place w.state (filling w) c (ext c + j)) (width_of w.state c) (listed_bytes w b c) (buffer_at v (filling w) c)
      (ap (λ (x : ℕ). bits_from v.slots (bitmap_place v.state x c) 0 (ext c + j)) (sym m.beside.place) ∙ l.bit j k) (λ y. ((s j k).shown y).same) (s j k).plain)

  new_valid : is_views v.state c ≡ true → (j : ℕ) → j < n → is_valid (view_of v.slots (cell_place v.state v.state.place c (ext c + j))) (buffer_at v v.state.place c) (reach v v.state.place c) ≡ true
  new_valid y j k =
      let p : is_valid (view_of v.slots (cell_place w.state (filling w) c (ext c + j))) (buffer_at v (filling w) c) (reach v (filling w) c) ≡ true = ((s j k).shown (sym (same_views e c) ∙ y)).valid in
      let z : v.state.place ≡ w.state.place = m.beside.place in
      let t : cell_place v.state v.state.place c (ext c + j) ≡ cell_place w.state (filling w) c (ext c + j) = same_cell_place e v.state.place c (ext c + j) ∙ ap (λ (x : ℕ). cell_place w.state x c (ext c + j)) z in
      ap (λ (x : ℕ). is_valid (view_of v.slots x) (buffer_at v v.state.place c) (reach v v.state.place c)) t
      ∙ ap (λ (x : ℕ). is_valid (view_of v.slots (cell_place w.state (filling w) c (ext c + j))) (buffer_at v x c) (reach v x c)) z
      ∙ p

  pub stored_extends : Extends w ext b c from n v
  stored_extends =
      record {
        moves =
            moves_more m (more_least ext c n)
            (holding-more c n m.holding (omega (arith, e.columns)) (omega (arith, ap (λ r. r.0) e.rows)) new_valid);
        new = new_cell;
        still = t;
      }
