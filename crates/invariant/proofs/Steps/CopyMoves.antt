-- Bits and bytes of a part put behind the rows of a column: every row is as it was, and the new ones read as the batch's.
use Rattle.std.specs.Prelude.{ℕ, ◌+◌, ◌-◌, ◌*◌, ◌/◌, ◌%◌, ◌≤◌, ◌<◌, ◌≡◌, ◌≢◌, Bool, true, false, cond, List, length, get_or}
use Rattle.std.proofs.Math.Path.{refl}
use Rattle.std.proofs.Common.{sym, ◌∙◌, ap, arith}
use Rattle.std.proofs.Math.Decide.{dec_lt, ℕ_discrete}
use Rattle.words.specs.WordLaws.{Bytes}
use Rattle.words.specs.Run.{read, lay}
use Rattle.words.specs.RunLaws.{length-read, lay-put}
use Rattle.words.specs.Frame.{Framed}
use Rattle.words.specs.FrameLaws.{put_framed, put_agrees, get_d_read}
use Rattle.bits.specs.Bits.{bit_at, bits_from, appended}
use Rattle.bits.specs.BitLaws.{length-appended, bit_kept, bit_past, bit_appended, bit_cleared, bytes-appended, bits_from_small}
use Rattle.state.specs.World.{World}
use Rattle.state.specs.Layout.{width_of, bitmap_bytes, bitmap_place, cell_place, list_length}
use Rattle.state.proofs.LayoutLaws.{bits_fit, bitmap_in}
use Rattle.state.specs.Where.{Where, cells, bitmap, Inside, cells_inside, bitmap_inside, Other, other_slot, other_column, other_part, behind}
use Rattle.state.specs.Rows.{listed_at}
use Rattle.rules.specs.Batch.{Batch, record_of, has_bitmap, bit_of, row_bit}
use Rattle.rules.specs.Steps.{in_slots}
use Rattle.rules.specs.Views.{span, filling, bits_laid, bits_copied}
use Rattle.invariant.specs.Holding.{rows_at, Holding}
use Rattle.invariant.specs.ByteLaws.{bytes_read, bytes-lay}
use Rattle.invariant.specs.Steps.Moves.{Moves, BitsStill, Laid}
use Rattle.invariant.proofs.Steps.MoveLaws.{rows-filling, rows_most}
use Rattle.invariant.proofs.SlotLaws.{cell_agrees, bit_agrees, entry_agrees, entry_views, slots_moves}

-- ---- n cells of a column changed, from row `at` on

module _ {w : World} {ext : ℕ → ℕ} (x : List ℕ) (c at n : ℕ) (a : Holding w ext) (q : c < w.state.columns) (old : ext c ≤ at) (h : at + n ≤ w.state.rows.0) (f : Framed (cell_place w.state w.state.place c at) (cell_place w.state w.state.place c at + n * width_of w.state c) w.slots x) where
  abbrev put : Where
  put = cells w.state.place c at n

  in_bounds_lem : Inside w.state put
  in_bounds_lem = cells_inside a.run.fit.place q h

  -- a row that there was
  row_other : (slot d i : ℕ) → i < rows_at w ext slot d → Dec (slot ≡ w.state.place) → Dec (d ≡ c) → Other put (cells slot d i 1)
  row_other slot d i l (no z) e = other_slot (λ y. z (sym y))
  row_other slot d i l (yes z) (no e) = other_column (λ y. e (sym y))
  row_other slot d i l (yes z) (yes e) = behind (omega (arith, rows-filling w ext slot d z, ap ext e))

  -- the lists
  pub cells_word : (slot d i : ℕ) → slot ≤ w.state.queue → d < w.state.columns → i < list_length w slot d → listed_at (in_slots w x) slot d i ≡ listed_at w slot d i
  unfolding listed_at
  cells_word slot d i p r l =
      let y = entry_views slot d i a p r l in
      entry_agrees w.state put f in_bounds_lem slot d i p r y.0 y.1 (other_part (λ z. omega arith))

  pub cells_still : BitsStill w (in_slots w x)
  cells_still = record { bit = λ slot d i p r l. bit_agrees w.state put f in_bounds_lem slot d i p r l (other_part (λ z. omega arith)) }

  pub cells_moves : (Bytes w.slots → Bytes x) → Moves w ext (in_slots w x) ext
  cells_moves bytes =
      slots_moves x a cells_word f.len bytes (λ slot d i p r l.
      let m : i < w.state.rows.0 = omega (arith, rows_most w ext a slot d p r) in
      record {
        bit = cells_still.bit slot d i p r (omega (arith, bits_fit w.state));
        cell = cell_agrees w.state put f in_bounds_lem slot d i p r m (row_other slot d i l (ℕ_discrete slot w.state.place) (ℕ_discrete d c));
      })

-- ---- the bits of a part

-- a bit of a byte that stands elsewhere
bit_shift : (s t : List ℕ) (place i : ℕ) → get_or s (place + i / 8) 0 ≡ get_or t (i / 8) 0 → bits_from s place 0 i ≡ bit_at t i
unfolding bits_from bit_at
bit_shift s t place i e =
    let p : (8 * place + 0 + i) / 8 ≡ place + i / 8 = omega arith in
    let q : (8 * place + 0 + i) % 8 ≡ i % 8 = omega arith in
    rw (p, q, e)

-- a bit is 0 or 1
row_bit_small : (b : Batch) (c i : ℕ) → row_bit b c i < 2
unfolding row_bit bit_of
row_bit_small b c i = go (has_bitmap (record_of b c))
  where
    go : (y : Bool) → cond y (bits_from b.body (record_of b c).validity (record_of b c).first i) 1 < 2
    go true = bits_from_small b.body (record_of b c).validity (record_of b c).first i
    go false = omega arith

module _ {w : World} {ext : ℕ → ℕ} (b : Batch) (c at from n : ℕ) (a : Holding w ext) (q : c < w.state.columns) (old : ext c ≤ at) (h : at + n ≤ w.state.rows.0) where
  abbrev place : ℕ
  place = bitmap_place w.state w.state.place c

  abbrev size : ℕ
  size = bitmap_bytes w.state

  abbrev before : List ℕ
  before = read place size w.slots

  abbrev run : ℕ → ℕ
  run i = row_bit b c (from + i)

  abbrev after : List ℕ
  after = appended before at run n

  abbrev laid : List ℕ
  laid = lay place after w.slots

  room : place + size ≤ length w.slots
  room = omega (arith, bitmap_in w.state w.state.place c a.run.fit.place q, a.run.fit.slots_are)

  length_before : length before ≡ size
  length_before = length-read place size w.slots room

  length-after : length after ≡ size
  length-after = length-appended before at run n ∙ length_before

  framed : Framed place (place + size) w.slots laid
  framed =
      let e : place + length after ≡ place + size = ap (λ (k : ℕ). place + k) length-after in
      rw (lay-put place after w.slots (omega (arith, length-after, room)))
      (rw e at (put_framed place after w.slots (omega (arith, length-after, room))))

  -- a bit of the bitmap is that of the bytes laid there
  bit_laid : (i : ℕ) → i < 8 * size → bits_from laid place 0 i ≡ bit_at after i
  bit_laid i l =
      rw (lay-put place after w.slots (omega (arith, length-after, room)))
      (bit_shift _ after place i ((put_agrees place after w.slots (omega (arith, length-after, room))).byte (place + i / 8) (i / 8) (omega arith) (omega (arith, length-after)) (omega arith)))

  bit_before : (i : ℕ) → i < 8 * size → bits_from w.slots place 0 i ≡ bit_at before i
  bit_before i l = bit_shift w.slots before place i (sym (get_d_read place size w.slots (i / 8) (omega arith)))

  fits : at + n ≤ 8 * length before
  fits = omega (arith, length_before, bits_fit w.state)

  abbrev put-bits : Where
  put-bits = bitmap w.state.place c

  bits_inside : Inside w.state put-bits
  bits_inside = bitmap_inside a.run.fit.place q

  bits_word : (slot d i : ℕ) → slot ≤ w.state.queue → d < w.state.columns → i < list_length w slot d → listed_at (in_slots w laid) slot d i ≡ listed_at w slot d i
  unfolding listed_at
  bits_word slot d i p r l =
      let y = entry_views slot d i a p r l in
      entry_agrees w.state put-bits framed bits_inside slot d i p r y.0 y.1 (other_part (λ z. omega arith))

  -- the bit of a row that there was
  old_bit : (slot d i : ℕ) → slot ≤ w.state.queue → d < w.state.columns → i < rows_at w ext slot d → i < w.state.rows.0 → Dec (slot ≡ w.state.place) → Dec (d ≡ c) → bits_from laid (bitmap_place w.state slot d) 0 i ≡ bits_from w.slots (bitmap_place w.state slot d) 0 i
  old_bit slot d i p r l m (no z) e = bit_agrees w.state put-bits framed bits_inside slot d i p r (omega (arith, bits_fit w.state)) (other_slot (λ y. z (sym y)))
  old_bit slot d i p r l m (yes z) (no e) = bit_agrees w.state put-bits framed bits_inside slot d i p r (omega (arith, bits_fit w.state)) (other_column (λ y. e (sym y)))
  old_bit slot d i p r l m (yes z) (yes e) =
      let k : i < at = omega (arith, rows-filling w ext slot d z, ap ext e) in
      let o : i < 8 * size = omega (arith, bits_fit w.state) in
      rw (z, e) (bit_laid i o ∙ bit_kept before at run n i fits k ∙ sym (bit_before i o))

  bits_moves_so : Moves w ext (in_slots w laid) ext
  bits_moves_so =
      slots_moves laid a bits_word framed.len (λ z. bytes-lay place (record { byte = bytes-appended before at run (λ i. row_bit_small b c (from + i)) (bytes_read place size z).byte n }) z) (λ slot d i p r l.
      let m : i < w.state.rows.0 = omega (arith, rows_most w ext a slot d p r) in
      record {
        bit = old_bit slot d i p r l m (ℕ_discrete slot w.state.place) (ℕ_discrete d c);
        cell = cell_agrees w.state put-bits framed bits_inside slot d i p r m (other_part (λ z. omega arith));
      })

  bits_are : bits_copied w b (filling w) (span c at from n) ≡ in_slots w laid
  unfolding bits_copied bits_laid row_bit
  bits_are = refl

  pub bits_moves : Moves w ext (bits_copied w b (filling w) (span c at from n)) ext
  bits_moves = rw bits_are bits_moves_so

  pub bits-laid : Laid (bits_copied w b (filling w) (span c at from n)) b c at from n
  bits-laid =
      rw bits_are
      (record {
        bit = λ j l.
            let o : at + j < 8 * size = omega (arith, bits_fit w.state) in
            bit_laid (at + j) o ∙ bit_appended before at run (λ i. row_bit_small b c (from + i)) n j fits l;
      })

  -- every other bit of the bitmaps is as it was, and where there is no row to copy all are
  pub bits_others : (slot d i : ℕ) → slot ≤ w.state.queue → d < w.state.columns → i < 8 * size → (slot ≡ w.state.place → d ≢ c) → bits_from (bits_copied w b (filling w) (span c at from n)).slots (bitmap_place w.state slot d) 0 i ≡ bits_from w.slots (bitmap_place w.state slot d) 0 i
  bits_others slot d i p r l o = rw bits_are (bit_agrees w.state put-bits framed bits_inside slot d i p r l (other (ℕ_discrete slot w.state.place)))
    where
      other : Dec (slot ≡ w.state.place) → Other put-bits (bitmap slot d)
      other (yes z) = other_column (λ y. o z (sym y))
      other (no z) = other_slot (λ y. z (sym y))

  pub bits_none : n ≡ 0 → (i : ℕ) → i < 8 * size → bits_from (bits_copied w b (filling w) (span c at from n)).slots place 0 i ≡ bits_from w.slots place 0 i
  bits_none z i l = rw bits_are (bit_laid i l ∙ by_place (dec_lt i at) ∙ sym (bit_before i l))
    where
      by_place : Dec (i < at) → bit_at after i ≡ bit_at before i
      by_place (yes k) = bit_kept before at run n i fits k
      by_place (no k) = bit_past before at run n i (omega arith) (λ m. absurd (omega arith))

  -- the spare bits behind the rows are zero
  pub bits_spare : 0 < n → (i : ℕ) → i < 8 * size → at + n ≤ i → i / 8 ≡ (at + n - 1) / 8 → bits_from (bits_copied w b (filling w) (span c at from n)).slots place 0 i ≡ 0
  bits_spare z i l k e = rw bits_are (bit_laid i l ∙ bit_cleared before at run (λ i. row_bit_small b c (from + i)) n i fits z k e)
