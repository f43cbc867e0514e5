-- A column of a batch that is queued whole: bits, values and list as they are given, in an empty slot.
use Rattle.std.specs.Prelude.{ℕ, ◌+◌, ◌≤◌, ◌<◌, ◌≡◌, ◌≢◌, Bool, true, false}
use Rattle.std.proofs.Math.Path.{refl}
use Rattle.std.proofs.Common.{sym, ◌∙◌, ap, true≢false, arith}
use Rattle.words.specs.Run.{read}
use Rattle.sound.specs.Sound.{filled_bytes}
use Rattle.views.specs.View.{view_of}
use Rattle.views.specs.StoreLaws.{agrees_view}
use Rattle.state.specs.World.{World, column_of}
use Rattle.state.specs.Layout.{width_of, is_views, cell_place, list_length}
use Rattle.state.proofs.LayoutLaws.{views_width}
use Rattle.state.specs.Rows.{buffer_at}
use Rattle.rules.specs.Batch.{Batch, record_of, listed_number, bytes_listed, listed_bytes, value_place, row_view}
use Rattle.rules.specs.Views.{span, filling, values_copied, list_attached}
use Rattle.rules.specs.SameLaws.{same_width, same_views, same_value_place, same_row_view}
use Rattle.push_safety.specs.Run.{ColumnReads}
use Rattle.invariant.specs.Holding.{reach, number_at, Holding, Begins}
use Rattle.invariant.proofs.BeginLaws.{keeps_begins}
use Rattle.invariant.proofs.Rests.{buffer_number_lem}
use Rattle.invariant.specs.Steps.Moves.{Moves, BitsStill, ReadableBatch, Laid, Extends}
use Rattle.invariant.proofs.Steps.MoveLaws.{laid_on, sourced_on, listed_begins}
use Rattle.invariant.proofs.Steps.Stored.{Stored, stored_extends}
use Rattle.invariant.proofs.Steps.ValueMoves.{values_moves, values_still, values_view, values_plain}
use Rattle.invariant.proofs.Steps.RaiseMoves.{extends_after}
use Rattle.invariant.proofs.Steps.PlainMoves.{empty-list, plain_moves, plain_still, plain_slots, plain_reach}
use Rattle.invariant.proofs.Steps.AttachMoves.{attached_moves, attached_still, attached_reach, attached_number, attached_cell, attached_elsewhere}
use Rattle.std.specs.Prelude.{None}

-- ---- values as they stand, then the list, in a column that has neither

-- the rows behind
pub record WholeColumn (w : World) (ext : ℕ → ℕ) (b : Batch) (c : ℕ) (v : World) : Type 0 where
  pub extends : Extends w ext b c 0 b.rows v
  pub others : (d : ℕ) → d < w.state.columns → d ≢ c → reach v w.state.place d ≡ reach w w.state.place d

-- the bytes of a number of the batch's list
listed-filled : (w : World) (b : Batch) (c i : ℕ) → listed_bytes w b c i ≡ filled_bytes w.books w.pool (listed_number b c i)
unfolding listed_bytes bytes_listed listed_number
listed-filled w b c i = refl

module _ {w : World} {ext : ℕ → ℕ} (b : Batch) (c : ℕ) (a : Holding w ext) (x : ReadableBatch w b) (q : c < w.state.columns) (none : ext c ≡ 0) (empty : reach w w.state.place c ≡ 0) (l : (record_of b c).count ≤ w.state.lists) (t : Laid w b c 0 0 b.rows) where
  abbrev v : World
  v = values_copied w b (filling w) (span c 0 0 b.rows)

  rows_fit : b.rows ≤ w.state.rows.0
  rows_fit = x.reads.rows_fit

  v_moves : Moves w ext v ext
  v_moves = values_moves b c 0 0 b.rows a x q (omega arith) (omega (arith, rows_fit)) (omega arith)

  v_still : BitsStill w v
  v_still = values_still b c 0 0 b.rows a x q (omega arith) (omega (arith, rows_fit)) (omega arith)

  v-reach : (d : ℕ) → reach v w.state.place d ≡ reach w w.state.place d
  unfolding values_copied reach list_length
  v-reach d = refl

  v_state : v.state ≡ w.state
  unfolding values_copied
  v_state = refl

  v_sourced : ReadableBatch v b
  v_sourced = sourced_on x v_moves a.run

  q' : c < v.state.columns
  q' = omega (arith, v_moves.beside.set_up.columns)

  abbrev u : World
  u = list_attached v b c

  same_at : (j : ℕ) → cell_place v.state (filling v) c (ext c + j) ≡ cell_place w.state (filling w) c (0 + j)
  same_at j = ap (λ s. cell_place s s.place c (ext c + j)) v_state ∙ ap (λ (k : ℕ). cell_place w.state (filling w) c (k + j)) none

  laid' : Laid v b c 0 0 b.rows
  laid' = laid_on b c 0 0 b.rows a.run v_moves.beside v_still q (omega (arith, rows_fit)) t

  -- the rows, once the list is attached
  module _ (m : Moves v ext u ext) (s : BitsStill v u) (stored : (j : ℕ) → j < b.rows → Stored v u b c (0 + j) (ext c + j)) where
    laid'' : Laid u b c (ext c) 0 b.rows
    laid'' = rw none (laid_on b c 0 0 b.rows v_moves.holding.run m.beside s q' (omega (arith, v_sourced.reads.rows_fit)) laid')

    whole_extends : Extends w ext b c 0 b.rows u
    whole_extends =
        extends_after a x q (omega arith) v_moves v_still
        (stored_extends b c 0 b.rows m q' (omega (arith, none, v_sourced.reads.rows_fit)) laid'' stored s)

  -- of views: the views are those of the batch, and their buffers those of its list
  views_whole : is_views w.state c ≡ true → WholeColumn w ext b c u
  views_whole y = record { extends = whole_extends m s stored; others = λ d r n. others d r n }
    where
      y' : is_views v.state c ≡ true
      y' = same_views v_moves.beside.set_up c ∙ y

      at_place : v.state.place ≡ w.state.place
      at_place = v_moves.beside.place

      nothing : (list_length v v.state.place c ≡ 0) × ((column_of v.state c).block ≡ None)
      nothing = empty-list v c y' (ap (λ (k : ℕ). reach v k c) at_place ∙ v-reach c ∙ empty)

      fits : list_length v v.state.place c + (record_of b c).count ≤ v.state.lists
      fits = omega (arith, nothing.0, v_moves.beside.set_up.lists)

      reads : ColumnReads v b c
      reads = v_sourced.reads.columns c q'

      m : Moves v ext u ext
      m = attached_moves b c v_moves.holding reads q' y' nothing.1 fits x.bytes

      s : BitsStill v u
      s = attached_still b c v_moves.holding reads q' y' nothing.1 fits

      others : (d : ℕ) → d < w.state.columns → d ≢ c → reach u w.state.place d ≡ reach w w.state.place d
      others d r n =
          ap (λ (k : ℕ). reach u k d) (sym at_place) ∙ attached_elsewhere b c v_moves.holding reads q' y' nothing.1 fits d (omega (arith, v_moves.beside.set_up.columns)) n
          ∙ ap (λ (k : ℕ). reach v k d) at_place ∙ v-reach d

      -- the buffers of the list
      buffers : (i : ℕ) → i < (record_of b c).count → Begins (listed_bytes v b c i) (buffer_at u (filling v) c i)
      buffers i h =
          let p : number_at u (filling v) c i ≡ listed_number b c i = ap (number_at u (filling v) c) (omega (arith, nothing.0)) ∙ attached_number b c v_moves.holding reads q' y' nothing.1 fits i h in
          let r : i < reach u (filling v) c = omega (arith, attached_reach b c v_moves.holding reads q' y' nothing.1 fits) in
          rw (buffer_number_lem u (filling v) c i r, p, ← (listed-filled u b c i))
          (listed_begins v_sourced v_moves.holding.run m.beside.set_up m.goes m.stands c i q' h)

      view : (j : ℕ) → j < b.rows → view_of u.slots (cell_place v.state (filling v) c (ext c + j)) ≡ row_view v b c (0 + j)
      view j h =
          agrees_view _ _ (attached_cell b c v_moves.holding reads q' y' nothing.1 fits (filling v) c (ext c + j) v_moves.holding.run.fit.place q' (omega (arith, none, v_sourced.reads.rows_fit))) (omega arith) (omega (arith, views_width v.state c y')) refl
          ∙ ap (view_of v.slots) (same_at j)
          ∙ values_view b c 0 0 b.rows a x q (omega arith) (omega (arith, rows_fit)) (omega arith) y j h
          ∙ sym (same_row_view w v b v_moves.beside.set_up c (0 + j))

      stored : (j : ℕ) → j < b.rows → Stored v u b c (0 + j) (ext c + j)
      stored j h =
          record {
            shown = λ z.
                rw (view j h)
                (keeps_begins (row_view v b c (0 + j)) (listed_bytes v b c) (record_of b c).count (buffer_at u (filling v) c) (reach u (filling v) c) (v_sourced.valid c (0 + j) q' y' (omega arith))
                (omega (arith, attached_reach b c v_moves.holding reads q' y' nothing.1 fits))
                buffers);
            plain = λ z. absurd (true≢false (sym y' ∙ z));
          }

  -- of values
  plain_whole : is_views w.state c ≡ false → WholeColumn w ext b c u
  plain_whole n =
      record {
        extends =
            whole_extends (plain_moves b c v_moves.holding reads q' n') (plain_still b c v_moves.holding reads q' n')
            (λ j h.
            record {
              shown = λ y. absurd (true≢false (sym y ∙ n'));
              plain = λ z.
                  ap (read (cell_place v.state (filling v) c (ext c + j)) (width_of v.state c)) (plain_slots b c v_moves.holding reads q' n')
                  ∙ ap (λ (k : ℕ). read k (width_of v.state c) v.slots) (same_at j)
                  ∙ values_at j h;
            });
        others = λ d r z.
            ap (λ (k : ℕ). reach u k d) (sym v_moves.beside.place) ∙ plain_reach b c v_moves.holding reads q' n' d (omega (arith, v_moves.beside.set_up.columns))
            ∙ ap (λ (k : ℕ). reach v k d) v_moves.beside.place ∙ v-reach d;
      }
    where
      n' : is_views v.state c ≡ false
      n' = same_views v_moves.beside.set_up c ∙ n

      reads : ColumnReads v b c
      reads = v_sourced.reads.columns c q'

      values_at : (j : ℕ) → j < b.rows → read (cell_place w.state (filling w) c (0 + j)) (width_of v.state c) v.slots ≡ read (value_place v b c (0 + j)) (width_of v.state c) b.body
      values_at j h =
          ap (λ (k : ℕ). read (cell_place w.state (filling w) c (0 + j)) k v.slots) (same_width v_moves.beside.set_up c)
          ∙ values_plain b c 0 0 b.rows a x q (omega arith) (omega (arith, rows_fit)) (omega arith) j h
          ∙ ap (λ (k : ℕ). read k (width_of w.state c) b.body) (sym (same_value_place w v b v_moves.beside.set_up c (0 + j)))
          ∙ ap (λ (k : ℕ). read (value_place v b c (0 + j)) k b.body) (sym (same_width v_moves.beside.set_up c))

  pub laid-whole : WholeColumn w ext b c u
  laid-whole = go (is_views w.state c) refl
    where
      go : (y : Bool) → is_views w.state c ≡ y → WholeColumn w ext b c u
      go true y = views_whole y
      go false y = plain_whole y
