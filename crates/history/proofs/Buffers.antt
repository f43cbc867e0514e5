-- The buffer that a row's answer names can be read, and the read hands back the bytes that the answer is about.
use Rattle.std.specs.Prelude.{ℕ, ◌+◌, ◌≤◌, ◌<◌, ◌≡◌, refl, Bool, cond, List, ltb, leb, eqb}
use Rattle.std.proofs.Common.{arith}
use Rattle.std.proofs.Math.Bool.{true, false}
use Rattle.std.specs.Prelude.{Some}
use Rattle.std.proofs.Math.Decide.{dec_lt}
use Rattle.std.proofs.Math.ListN.{length}
use borrow.Author.Tests.{lt-ltb, le-leb, lt-leb, eq-eqb}
use Rattle.words.specs.WordLaws.{Bytes}
use Rattle.bits.specs.Bits.{bits_from}
use Rattle.books.specs.Entry.{used_of, entry_of}
use Rattle.views.specs.View.{view_of}
use Rattle.views.specs.ShowLaws.{long-says}
use Rattle.pool.specs.Read.{is_there, read_refusal, part_of}
use Rattle.sound.specs.Sound.{filled_bytes}
use Rattle.state.specs.declared.Place.{Place}
use Rattle.state.specs.declared.RowAnswer.{RowAnswer}
use Rattle.state.specs.World.{World}
use Rattle.state.specs.Layout.{width_of, is_views, bitmap_place, cell_place, list_length}
use Rattle.state.specs.Rows.{listed_at, buffer_at, front_slot}
use Rattle.rules.specs.Ranges.{tested}
use Rattle.rules.specs.Calls.{Wanted, set_up_call, view_answer, value_answer, is_row, read_row, buffer_number_call, buffer_call}
use Rattle.invariant.specs.Holding.{reach, number_at, Between}
use Rattle.invariant.proofs.CountLaws.{number_live, number_used}
use Rattle.invariant.proofs.Rests.{reach_other, number-listed}
use Rattle.invariant.proofs.Calls.Tested.{between-tested}
use Rattle.history.specs.Call.{Call}
use Rattle.history.proofs.History.{did, all}
use Rattle.history.proofs.RowReads.{is, front_in, front_other, valid, last-bytes}
use Rattle.history.specs.Buffers.{CanRead, buffer_named}

module _ {w : World} (g : Between w) (slot c i : ℕ) (p : slot ≤ w.state.queue) (q : c < w.state.columns) (h : i < reach w slot c) where
  abbrev k : ℕ
  k = number_at w slot c i

  there : is_there w.books w.pool k ≡ true
  unfolding is_there
  there =
      let u : k < used_of w.books = number_used g.holding slot c i p q h in
      let e : (entry_of w.books k).start + (entry_of w.books k).length.0 ≤ length w.pool = omega (arith, g.holding.run.inside k u, g.holding.run.filled k u, g.holding.run.fit.pool_is) in
      rw (lt-ltb k (used_of w.books) u, number_live g.holding slot c i p q h, le-leb ((entry_of w.books k).start + (entry_of w.books k).length.0) (length w.pool) e)

  readable : buffer_number_call w k ≡ 0
  unfolding buffer_number_call read_refusal
  readable = rw (eq-eqb (tested w) 0 (between-tested g), there)

  read_back : buffer_call w k ≡ filled_bytes w.books w.pool k
  unfolding buffer_call part_of filled_bytes
  read_back = rw (eq-eqb (tested w) 0 (between-tested g), there)

  pub number_reads : CanRead w (Some k)
  number_reads = (readable, read_back)

module _ {w : World} (g : Between w) (bytes : Bytes w.slots) (c i : ℕ) (h : is_row w c i ≡ true) where
  abbrev at : ℕ
  at = cell_place w.state (front_slot w) c i

  view_named : is_views w.state c ≡ true → CanRead w (buffer_named (view_answer w (front_slot w) c at (view_of w.slots at)))
  unfolding view_answer
  view_named y = go (dec_lt 12 (view_of w.slots at).length)
    where
      go : Dec (12 < (view_of w.slots at).length) → CanRead w (buffer_named (cond (leb (view_of w.slots at).length 12) (RowAnswer.Value (Place.InRow (at + 4) (record { 0 = (view_of w.slots at).length }))) (cond (ltb (view_of w.slots at).index (list_length w (front_slot w) c)) (RowAnswer.Value (Place.InBuffer (record { 0 = listed_at w (front_slot w) c (view_of w.slots at).index }) (view_of w.slots at).offset (record { 0 = (view_of w.slots at).length }))) (RowAnswer.Refused 13))))
      go (no d) = rw (le-leb (view_of w.slots at).length 12 (omega arith)) tt
      go (yes d) =
          let p = long-says (view_of w.slots at) (buffer_at w (front_slot w) c) (list_length w (front_slot w) c) d (valid g bytes c i h y) in
          let r : (view_of w.slots at).index < reach w (front_slot w) c = omega (arith, p.below, reach_other w (front_slot w) c y (front_other g bytes c i h)) in
          rw (lt-leb (view_of w.slots at).length 12 d, lt-ltb (view_of w.slots at).index (list_length w (front_slot w) c) p.below, ← number-listed w (front_slot w) c (view_of w.slots at).index p.below)
          (number_reads g (front_slot w) c (view_of w.slots at).index (front_in g bytes c i h) (is g bytes c i h).column r)

  -- whatever a row of the front batch answers, the buffer that it names can be read
  pub named_reads : CanRead w (buffer_named (read_row w c i))
  unfolding read_row value_answer
  named_reads =
      rw (eq-eqb _ _ (between-tested g), h)
      (by_bit (eqb (bits_from w.slots (bitmap_place w.state (front_slot w) c) 0 i) 0) (is_views w.state c) refl)
    where
      by_bit : (b v : Bool) → is_views w.state c ≡ v → CanRead w (buffer_named (cond b RowAnswer.Null (cond v (view_answer w (front_slot w) c at (view_of w.slots at)) (RowAnswer.Value (Place.InRow at (record { 0 = width_of w.state c }))))))
      by_bit true v y = tt
      by_bit false true y = view_named y
      by_bit false false y = tt

-- over every history from slots of bytes
module _ (a : Wanted) (slots pool books : List ℕ) (ok : (set_up_call a slots pool books).number ≡ 0) (bytes : Bytes slots) (cs : List Call) where
  abbrev last : World
  last = (did a slots pool books ok cs).world

  pub row_readable : (c i : ℕ) → is_row last c i ≡ true → CanRead last (buffer_named (read_row last c i))
  row_readable c i h = named_reads (all a slots pool books ok cs).between (last-bytes a slots pool books ok bytes cs) c i h
