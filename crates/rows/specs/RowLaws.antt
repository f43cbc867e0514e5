-- One law for each exit of a read of a row: what the code has learnt there, and its contract.
use Rattle.std.specs.Prelude.{ℕ, ◌+◌, ◌*◌, ◌≤◌, ◌<◌, ◌≡◌, Bool, true, false, List, [], length}
use Rattle.std.proofs.Common.{sym, ◌∙◌, arith}
use borrow.Author.Tests.{lt-ltb, le-ltb, le-leb, lt-leb, ne_eqb}
use Rattle.words.specs.Word.{word32}
use Rattle.bits.specs.Bits.{bits_from}
use Rattle.views.specs.declared.View.{View}
use Rattle.views.specs.View.{view_of}
use Rattle.state.specs.declared.BatchCoalescer.{BatchCoalescer}
use Rattle.state.specs.declared.Place.{Place}
use Rattle.state.specs.declared.RowAnswer.{RowAnswer}
use Rattle.state.specs.World.{world}
use Rattle.state.specs.Layout.{width_of, is_views, bitmap_place, list_place, cell_place, rows_in, list_length, queued_slot}
use Rattle.state.proofs.LayoutLaws.{bits_fit, views_width}
use Rattle.layout.specs.PlaceLaws.{bitmap_below, cell_below}
use Rattle.state.specs.Rows.{listed_at}
use Rattle.rules.specs.Ranges.{tested}
use Rattle.rules.specs.Calls.{view_answer, value_answer, is_row, read_row}
use Rattle.ranges.specs.Passed.{PassedTests, passed_slots}
use Rattle.rows.specs.Row.{row_answer, front_row}

-- ---- read_row: n is what the tests answered

module _ (s : BatchCoalescer) (slots pool books : List ℕ) {n : ℕ} (e : n ≡ tested (world s slots pool books)) where
  pub row-refused : (c i : ℕ) → (n ≡ 0 → ⊥) → RowAnswer.Refused n ≡ read_row (world s slots pool books) c i
  unfolding read_row
  row-refused c i h = rw (← e, ne_eqb n 0 h)

  pub row_read_lem : (c i : ℕ) {r : RowAnswer} → n ≡ 0 → r ≡ front_row (world s slots [] books) c i → r ≡ read_row (world s slots pool books) c i
  unfolding read_row front_row row_answer value_answer view_answer is_row rows_in list_length listed_at
  row_read_lem c i z p = rw (← e, z) p

-- ---- front_row

module _ (s : BatchCoalescer) (slots books : List ℕ) (c i : ℕ) where
  pub front-none : s.queued ≡ 0 → RowAnswer.Refused 13 ≡ front_row (world s slots [] books) c i
  unfolding front_row is_row
  front-none z = rw (le-ltb 0 s.queued (omega arith))

  module _ (h : s.queued ≡ 0 → ⊥) where
    pub front-column : s.columns ≤ c → RowAnswer.Refused 13 ≡ front_row (world s slots [] books) c i
    unfolding front_row is_row
    front-column l = rw (lt-ltb 0 s.queued (omega arith), le-ltb c s.columns l)

    module _ (l : c < s.columns) {slot n : ℕ} (p : slot ≡ queued_slot s 0) (q : n ≡ rows_in (world s [] [] books) slot) where
      same_rows : n ≡ rows_in (world s slots [] books) (queued_slot s 0)
      unfolding rows_in
      same_rows = rw (← p) q

      pub front-row : n ≤ i → RowAnswer.Refused 13 ≡ front_row (world s slots [] books) c i
      unfolding front_row is_row
      front-row m = rw (lt-ltb 0 s.queued (omega arith), lt-ltb c s.columns l, ← same_rows, le-ltb i n m)

      pub front-done : {r : RowAnswer} → i < n → r ≡ row_answer (world s slots [] books) slot c i → r ≡ front_row (world s slots [] books) c i
      unfolding front_row is_row
      front-done m t = rw (lt-ltb 0 s.queued (omega arith), lt-ltb c s.columns l, ← same_rows, lt-ltb i n m, ← p) t

-- ---- row_answer, value_answer

module _ (s : BatchCoalescer) (slots books : List ℕ) (slot c i : ℕ) where
  -- the bit lies in the slots
  pub bit_room : {at : ℕ} → PassedTests s slots books → slot ≤ s.queue → c < s.columns → i < s.rows.0 → at ≡ bitmap_place s slot c → 8 * at + 0 + i < 8 * length slots
  bit_room p h l m e =
      omega (arith, bits_fit s, bitmap_below s h l (passed_slots s slots books p))

  module _ {at bit : ℕ} (p : at ≡ bitmap_place s slot c) (q : bit ≡ bits_from slots at 0 i) where
    is_bit : bit ≡ bits_from slots (bitmap_place s slot c) 0 i
    is_bit = rw (← p) q

    pub answer_null : bit ≡ 0 → RowAnswer.Null ≡ row_answer (world s slots [] books) slot c i
    unfolding row_answer
    answer_null z = rw (← is_bit, z)

    pub answer_value : {r : RowAnswer} → (bit ≡ 0 → ⊥) → r ≡ value_answer (world s slots [] books) slot c i → r ≡ row_answer (world s slots [] books) slot c i
    unfolding row_answer
    answer_value h t = rw (← is_bit, ne_eqb bit 0 h) t

  module _ {v : Bool} (p : v ≡ is_views s c) {at : ℕ} (q : at ≡ cell_place s slot c i) where
    -- the view lies in the slots
    pub view_room : v ≡ true → PassedTests s slots books → slot ≤ s.queue → c < s.columns → i < s.rows.0 → at + 16 ≤ length slots
    view_room x t h l m =
        omega (arith, views_width s c (sym p ∙ x), cell_below s h l (passed_slots s slots books t) m)

    pub value_view : {r : RowAnswer} → v ≡ true → r ≡ view_answer (world s slots [] books) slot c at (view_of slots at) → r ≡ value_answer (world s slots [] books) slot c i
    unfolding value_answer
    value_view x t = rw (← p, x, ← q) t

    pub value_plain : {width : ℕ} → v ≡ false → width ≡ width_of s c → RowAnswer.Value (Place.InRow at (record { 0 = width })) ≡ value_answer (world s slots [] books) slot c i
    unfolding value_answer
    value_plain x t = rw (← p, x, ← q, ← t)

-- ---- view_answer

module _ (s : BatchCoalescer) (slots books : List ℕ) (slot c at : ℕ) {v : View} (p : v ≡ view_of slots at) where
  pub view_inline : v.length ≤ 12 → RowAnswer.Value (Place.InRow (at + 4) (record { 0 = v.length })) ≡ view_answer (world s slots [] books) slot c at (view_of slots at)
  unfolding view_answer
  view_inline h = rw (← p, le-leb v.length 12 h)

  module _ (h : 12 < v.length) {n : ℕ} (q : n ≡ list_length (world s [] [] books) slot c) where
    same_length : n ≡ list_length (world s slots [] books) slot c
    unfolding list_length
    same_length = q

    pub view_outside : n ≤ v.index → RowAnswer.Refused 13 ≡ view_answer (world s slots [] books) slot c at (view_of slots at)
    unfolding view_answer
    view_outside l = rw (← p, lt-leb v.length 12 h, ← same_length, le-ltb v.index n l)

    pub view-listed : {place k : ℕ} → v.index < n → place ≡ list_place s slot c → k ≡ word32 slots (place + 4 * v.index) → RowAnswer.Value (Place.InBuffer (record { 0 = k }) v.offset (record { 0 = v.length })) ≡ view_answer (world s slots [] books) slot c at (view_of slots at)
    unfolding view_answer listed_at
    view-listed l t u = rw (← p, lt-leb v.length 12 h, ← same_length, lt-ltb v.index n l, ← t, ← u)
