-- The places of slots are in bounds, over numbers as a caller has them: L is the length of the lent slots.
use Rattle.std.specs.Prelude.{ℕ, suc, ◌+◌, ◌*◌, ◌≤◌, ◌<◌, ◌≡◌, Bool, true}
use Rattle.std.proofs.Common.{sym, ◌∙◌, arith}
use Rattle.state.specs.declared.BatchCoalescer.{BatchCoalescer}
use Rattle.state.specs.Layout.{width_of, is_views, bitmap_bytes, bitmap_place, list_place, cell_place, slots_length}
use Rattle.state.proofs.LayoutLaws.{cell_in, bitmap_in, column_in_lem, entries_fit, bitmap_follows, list_follows}

module _ (s : BatchCoalescer) {slot c L : ℕ} (in_slots_lem : slot ≤ s.queue) (in_columns : c < s.columns) (long : L ≡ slots_length s) where
  -- n cells from row i on, and one
  pub cells_below : (i n : ℕ) → i + n ≤ s.rows.0 → cell_place s slot c i + n * width_of s c ≤ L
  cells_below i n h = omega (arith, cell_in s slot c in_slots_lem in_columns i n h)

  pub cell_below : {i : ℕ} → i < s.rows.0 → cell_place s slot c i + width_of s c ≤ L
  cell_below {i} h = omega (arith, cell_in s slot c in_slots_lem in_columns i 1 (omega arith))

  pub bitmap_below : bitmap_place s slot c + bitmap_bytes s ≤ L
  bitmap_below = omega (arith, bitmap_in s slot c in_slots_lem in_columns)

  -- the first k entries of the list of a column of views, and entry i
  pub list-below : {k : ℕ} → is_views s c ≡ true → k ≤ s.lists → list_place s slot c + 4 * k ≤ L
  list-below {k} e h =
      omega (
        arith,
        list_follows s slot c,
        bitmap_follows s slot c,
        column_in_lem s slot c in_slots_lem in_columns,
        entries_fit s c e,
      )

  pub entry-below : {i : ℕ} → is_views s c ≡ true → i < s.lists → list_place s slot c + 4 * i + 4 ≤ L
  entry-below {i} e h = omega (arith, list-below {k = suc i} e (omega arith))

-- the same of what the functions here answered: r is a place, w a width, b the bytes of a bitmap; and v, whether there are views
pub views_so : (s : BatchCoalescer) (c : ℕ) {v : Bool} → v ≡ is_views s c → v ≡ true → is_views s c ≡ true
views_so s c p q = sym p ∙ q

module _ (s : BatchCoalescer) (slot c : ℕ) {L r : ℕ} where
  pub cells_room : (i n : ℕ) {w : ℕ} → r ≡ cell_place s slot c i → w ≡ width_of s c → slot ≤ s.queue → c < s.columns → i + n ≤ s.rows.0 → L ≡ slots_length s → r + n * w ≤ L
  cells_room i n p q h k l e = rw (p, q) (cells_below s h k e i n l)

  pub cell_room : (i : ℕ) {w : ℕ} → r ≡ cell_place s slot c i → w ≡ width_of s c → slot ≤ s.queue → c < s.columns → i < s.rows.0 → L ≡ slots_length s → r + w ≤ L
  cell_room i p q h k l e = rw (p, q) (cell_below s h k e l)

  pub bitmap_room : {b : ℕ} → r ≡ bitmap_place s slot c → b ≡ bitmap_bytes s → slot ≤ s.queue → c < s.columns → L ≡ slots_length s → r + b ≤ L
  bitmap_room p q h k e = rw (p, q) (bitmap_below s h k e)

  pub list_room : (n : ℕ) → r ≡ list_place s slot c → is_views s c ≡ true → slot ≤ s.queue → c < s.columns → n ≤ s.lists → L ≡ slots_length s → r + 4 * n ≤ L
  list_room n p v h k l e = rw p (list-below s h k e v l)

  pub entry_room : (i : ℕ) → r ≡ list_place s slot c → is_views s c ≡ true → slot ≤ s.queue → c < s.columns → i < s.lists → L ≡ slots_length s → r + 4 * i + 4 ≤ L
  entry_room i p v h k l e = rw p (entry-below s h k e v l)
