-- A read of a row of the front batch answers the row that a drop would take: null, or the bytes it shows.
use Rattle.std.specs.Prelude.{ℕ, ◌+◌, ◌*◌, ◌≤◌, ◌<◌, ◌≡◌, ◌≢◌, Bool, ◌&&◌, cond, length, get_or, eqb}
use Rattle.std.proofs.Math.Path.{refl, ap}
use Rattle.std.proofs.Common.{sym, ◌∙◌, arith}
use Rattle.std.proofs.Math.Bool.{true, false, and-eq-true_iff}
use mathlib.Core.List.{List, []}
use Rattle.std.specs.Prelude.{Some}
use Rattle.std.proofs.Math.Decide.{dec_lt}
use Rattle.std.proofs.Math.Dec.{ltb}
use borrow.Author.Tests.{ltb-true, lt-ltb, le-leb, lt-leb, eq-eqb}
use Rattle.words.specs.Run.{read}
use Rattle.words.specs.WordLaws.{Bytes}
use Rattle.bits.specs.Bits.{bits_from}
use Rattle.views.specs.declared.View.{View}
use Rattle.views.specs.View.{view_of, is_valid, shows}
use Rattle.views.specs.ShowLaws.{inline_read, shows-long, long-says}
use Rattle.sound.specs.Sound.{filled_bytes}
use Rattle.state.specs.declared.Place.{Place}
use Rattle.state.specs.declared.RowAnswer.{RowAnswer}
use Rattle.state.specs.World.{World}
use Rattle.state.specs.Layout.{width_of, is_views, bitmap_place, cell_place, rows_in, list_length}
use Rattle.state.proofs.LayoutLaws.{views_width, cell_in}
use Rattle.state.proofs.SlotLaws.{queued_in, queued_place}
use Rattle.state.specs.Rows.{null, value, listed_at, buffer_at, cell_of, slot_cell, front_slot, taken_rows}
use Rattle.rules.proofs.CallLaws.{set_up_zero, set_up_done}
use Rattle.rules.specs.Calls.{Answered, Wanted, set_up_call, view_answer, value_answer, is_row, read_row, read_as}
use Rattle.invariant.specs.Holding.{reach, Between}
use Rattle.invariant.proofs.Rests.{reach_other, buffer_number_lem, number-listed}
use Rattle.invariant.proofs.Steps.MoveLaws.{rows_other}
use Rattle.invariant.proofs.Calls.Tested.{between-tested}
use Rattle.history.specs.Call.{Call}
use Rattle.history.proofs.History.{did, all}
use Rattle.history.specs.Cells.{slot_cell_at}

module _ {w : World} (g : Between w) (bytes : Bytes w.slots) (c i : ℕ) (h : is_row w c i ≡ true) where
  abbrev front : ℕ
  front = front_slot w

  abbrev at : ℕ
  at = cell_place w.state front c i

  abbrev view : View
  view = view_of w.slots at

  -- there is such a row
  pub record Is : Type 0 where
    pub queued : 0 < w.state.queued
    pub column : c < w.state.columns
    pub row : i < rows_in w front

  pub is : Is
  unfolding is_row
  is =
      let p = (and-eq-true_iff (ltb 0 w.state.queued) (ltb c w.state.columns && ltb i (rows_in w front))).0 h in
      let q = (and-eq-true_iff (ltb c w.state.columns) (ltb i (rows_in w front))).0 p.1 in
      record { queued = ltb-true 0 w.state.queued p.0; column = ltb-true c w.state.columns q.0; row = ltb-true i (rows_in w front) q.1 }

  pub front_in : front ≤ w.state.queue
  front_in = queued_in w.state 0 g.holding.run.fit.place

  pub front_other : front ≢ w.state.place
  front_other = queued_place w.state g.holding.run.fit.place g.holding.run.fit.queued 0 is.queued

  in_slots_lem : at + 1 * width_of w.state c ≤ length w.slots
  in_slots_lem =
      omega (arith, cell_in w.state front c front_in is.column i 1 (omega (arith, is.row, g.holding.counted front front_in)), g.holding.run.fit.slots_are)

  -- a view of it is valid over the list
  pub valid : is_views w.state c ≡ true → is_valid view (buffer_at w front c) (list_length w front c) ≡ true
  valid y =
      rw (reach_other w front c y front_other) at
      (g.holding.valid front c i front_in is.column y (omega (arith, is.row, rows_other w (λ d. w.state.buffered.0) front c front_other)))

  -- a view's answer is what it shows
  view_reads : is_views w.state c ≡ true → read_as w (view_answer w front c at view) ≡ Some (value (shows view (buffer_at w front c)))
  unfolding view_answer
  view_reads y = go (dec_lt 12 view.length)
    where
      go : Dec (12 < view.length) → read_as w (view_answer w front c at view) ≡ Some (value (shows view (buffer_at w front c)))
      go (no d) =
          rw (le-leb view.length 12 (omega arith))
          (ap (λ (l : List ℕ). Some (value l)) (sym (inline_read w.slots at (buffer_at w front c) bytes (omega (arith, in_slots_lem, views_width w.state c y)) (omega arith))))
      go (yes d) =
          let p = long-says view (buffer_at w front c) (list_length w front c) d (valid y) in
          let r : view.index < reach w front c = omega (arith, p.below, reach_other w front c y front_other) in
          let b : buffer_at w front c view.index ≡ filled_bytes w.books w.pool (listed_at w front c view.index) = buffer_number_lem w front c view.index r ∙ ap (filled_bytes w.books w.pool) (number-listed w front c view.index p.below) in
          rw (lt-leb view.length 12 d, lt-ltb view.index (list_length w front c) p.below)
          (ap (λ (l : List ℕ). Some (value l)) (sym (shows-long view (buffer_at w front c) d ∙ ap (read view.offset view.length) b)))

  -- every row reads as its cell
  pub read_cell : read_as w (read_row w c i) ≡ Some (slot_cell w front c i)
  unfolding read_row value_answer slot_cell cell_of
  read_cell =
      rw (eq-eqb _ _ (between-tested g), h) (by_bit (eqb (bits_from w.slots (bitmap_place w.state front c) 0 i) 0) (is_views w.state c) refl)
    where
      by_bit : (b v : Bool) → is_views w.state c ≡ v → read_as w (cond b RowAnswer.Null (cond v (view_answer w front c at view) (RowAnswer.Value (Place.InRow at (record { 0 = width_of w.state c }))))) ≡ Some (cond b null (cond v (value (shows view (buffer_at w front c))) (value (read at (width_of w.state c) w.slots))))
      by_bit true v y = refl
      by_bit false true y = view_reads y
      by_bit false false y = refl

-- the row that the next drop takes
taken_at : (w : World) (c i : ℕ) → c < w.state.columns → i < rows_in w (front_slot w) → get_or (get_or (taken_rows w) i []) c null ≡ slot_cell w (front_slot w) c i
unfolding taken_rows
taken_at w c i q h = slot_cell_at w (front_slot w) (rows_in w (front_slot w)) c i h q

-- over every history from slots of bytes: a row that is read is what the drop of its batch takes. 01: "A row taken is what it read as just
-- before its batch was dropped."
module _ (a : Wanted) (slots pool books : List ℕ) (ok : (set_up_call a slots pool books).number ≡ 0) (bytes : Bytes slots) (cs : List Call) where
  abbrev last : World
  last = (did a slots pool books ok cs).world

  pub last-bytes : Bytes last.slots
  last-bytes =
      (all a slots pool books ok cs).bytes
      (rw (ap (λ (r : Answered). r.world.slots) (set_up_done a slots pool books (set_up_zero a slots pool books ok))) bytes)

  pub reads_taken : (c i : ℕ) → is_row last c i ≡ true → read_as last (read_row last c i) ≡ Some (get_or (get_or (taken_rows last) i []) c null)
  reads_taken c i h =
      let g : Between last = (all a slots pool books ok cs).between in
      let z : Is g last-bytes c i h = is g last-bytes c i h in
      read_cell g last-bytes c i h ∙ ap Some (sym (taken_at last c i z.column z.row))
