-- One law for each exit of a function here: what the code has learnt there, and its contract.
use Rattle.std.specs.Prelude.{ℕ, ◌+◌, ◌*◌, ◌/◌, ◌-◌, ◌≤◌, ◌<◌, ◌≡◌, refl, Bool, true, false, get_or}
use Rattle.std.proofs.Common.{sym, ◌∙◌, ap, arith, mul-le-mul, le-leb, Fits}
use Rattle.std.proofs.lemmas.Bool.{lt-leb}
use Rattle.std.specs.Int.{w64}
use Rattle.kinds.specs.Kind.{width_at, is_view}
use Rattle.state.specs.declared.BatchCoalescer.{BatchCoalescer}
use Rattle.state.specs.declared.Column.{Column}
use Rattle.state.specs.World.{column_of, no_column}
use Rattle.state.specs.Layout.{
  bytes_in,
  width_of,
  is_views,
  values_bytes,
  bitmap_bytes,
  list_bytes,
  columns_bytes,
  slot_bytes,
  values_place,
  bitmap_place,
  list_place,
  cell_place,
  slots_length,
  books_length,
  next_slot,
  slot_before,
  queued_slot,
}
use Rattle.state.proofs.LayoutLaws.{columns_next}
use Rattle.layout.specs.Few.{size_of_kind}
use Rattle.layout.specs.WidthLaws.{kind_bound}
use Rattle.std.specs.Prelude.{Option, Some, None}

-- the width of a row: a kind has one, or the number is none of a kind
pub kind_some : (k : ℕ) {n : ℕ} {w : Option ℕ} → w ≡ width_at k → w ≡ Some n → n ≡ bytes_in (width_at k)
kind_some k q r = ap bytes_in (sym r ∙ q)

pub kind_small : (k : ℕ) {n : ℕ} {w : Option ℕ} → w ≡ width_at k → w ≡ Some n → n ≤ 32
kind_small k q r = rw (kind_some k q r) (kind_bound k)

pub kind_none : (k : ℕ) {w : Option ℕ} → w ≡ width_at k → w ≡ None → 0 ≡ bytes_in (width_at k)
kind_none k q r = ap bytes_in (sym r ∙ q)

pub width_is : (s : BatchCoalescer) (c : ℕ) {r : ℕ} {k : Column} → k ≡ column_of s c → r ≡ bytes_in (width_at k.kind) → r ≡ width_of s c
unfolding width_of
width_is s c p q = q ∙ ap (λ (x : Column). bytes_in (width_at x.kind)) p

pub views_is : (s : BatchCoalescer) (c : ℕ) {k : Column} {b : Bool} → k ≡ column_of s c → b ≡ is_view k.kind → b ≡ is_views s c
unfolding is_views
views_is s c p q = q ∙ ap (λ (x : Column). is_view x.kind) p

-- the parts of a column
pub values_small : (rows w : ℕ) → rows ≤ 65536 → w ≤ 32 → rows * w ≤ 2097152
values_small rows w p q = mul-le-mul p q

pub values_fit : (rows w : ℕ) → rows ≤ 65536 → w ≤ 32 → Fits w64 (rows * w)
values_fit rows w p q = record { fits = omega (arith, values_small rows w p q) }

pub values_is : (s : BatchCoalescer) (c : ℕ) {w : ℕ} → w ≡ width_of s c → s.rows.0 * w ≡ values_bytes s c
unfolding values_bytes
values_is s c e = rw e

pub bitmap_is : (s : BatchCoalescer) → (s.rows.0 + 7) / 8 ≡ bitmap_bytes s
unfolding bitmap_bytes
bitmap_is s = refl

pub list-some : (s : BatchCoalescer) (c : ℕ) {b : Bool} → b ≡ is_views s c → b ≡ true → 4 * s.lists ≡ list_bytes s c
unfolding list_bytes
list-some s c p q = rw (sym p ∙ q)

pub list-none : (s : BatchCoalescer) (c : ℕ) {b : Bool} → b ≡ is_views s c → b ≡ false → 0 ≡ list_bytes s c
unfolding list_bytes
list-none s c p q = rw (sym p ∙ q)

-- columns, one after another
pub columns_none : (s : BatchCoalescer) → 0 ≡ columns_bytes s 0
unfolding columns_bytes
columns_none s = refl

-- a column of a kind
pub size-some : (k rows lists : ℕ) {w : ℕ} {b : Bool} → w ≡ bytes_in (width_at k) → b ≡ is_view k → b ≡ true → rows * w + ((rows + 7) / 8 + 4 * lists) ≡ size_of_kind k rows lists
unfolding size_of_kind
size-some k rows lists p q r = rw (p, sym q ∙ r)

pub size_none : (k rows lists : ℕ) {w : ℕ} {b : Bool} → w ≡ bytes_in (width_at k) → b ≡ is_view k → b ≡ false → rows * w + (rows + 7) / 8 ≡ size_of_kind k rows lists
unfolding size_of_kind
size_none k rows lists p q r = rw (p, sym q ∙ r) (omega arith)

pub size_fits : (rows w x : ℕ) → rows ≤ 65536 → w ≤ 32 → x ≤ 12288 → rows * w + x ≤ 2109440
size_fits rows w x p q h = omega (arith, values_small rows w p q)

pub sum_fits : (rows w x : ℕ) → rows ≤ 65536 → w ≤ 32 → x ≤ 12288 → Fits w64 (rows * w + x)
sum_fits rows w x p q h = record { fits = omega (arith, size_fits rows w x p q h) }

pub columns_more : (s : BatchCoalescer) (c : ℕ) {sum r : ℕ} → sum ≡ columns_bytes s c → r ≡ size_of_kind (column_of s c).kind s.rows.0 s.lists → sum + r ≡ columns_bytes s (c + 1)
unfolding size_of_kind values_bytes width_of bitmap_bytes list_bytes is_views
columns_more s c h p = rw (h, p) (sym (columns_next s c) ∙ ap (columns_bytes s) (omega arith))

-- column c of the array is column c of the state
pub column_is : (s : BatchCoalescer) (c : ℕ) → get_or s.column c no_column ≡ column_of s c
unfolding column_of
column_is s c = refl

pub column_kind : (s : BatchCoalescer) (c : ℕ) {sum r : ℕ} → sum ≡ columns_bytes s c → r ≡ size_of_kind (get_or s.column c no_column).kind s.rows.0 s.lists → sum + r ≡ columns_bytes s (c + 1)
unfolding column_of
column_kind s c h p = columns_more s c h p

pub columns_all : (s : BatchCoalescer) {c i sum : ℕ} → sum ≡ columns_bytes s i → i ≤ c → c ≤ i → sum ≡ columns_bytes s c
columns_all s h p q = h ∙ ap (columns_bytes s) (omega arith)

pub slot_is : (s : BatchCoalescer) {r : ℕ} → r ≡ columns_bytes s s.columns → r ≡ slot_bytes s
unfolding slot_bytes
slot_is s e = e

-- places
pub slots_fit : (slot size : ℕ) → slot ≤ 1024 → size ≤ 33751040 → Fits w64 (slot * size)
slots_fit slot size p q = record { fits = omega (arith, mul-le-mul p q) }

module _ (s : BatchCoalescer) (slot c : ℕ) where
  pub values_place_is : {size b : ℕ} → size ≡ slot_bytes s → b ≡ columns_bytes s c → slot * size + b ≡ values_place s slot c
  unfolding values_place
  values_place_is p q = rw (p, q)

  pub bitmap_place_is : {a b : ℕ} → a ≡ values_place s slot c → b ≡ values_bytes s c → a + b ≡ bitmap_place s slot c
  unfolding bitmap_place
  bitmap_place_is p q = rw (p, q)

  pub list_place_is : {a b : ℕ} → a ≡ bitmap_place s slot c → b ≡ bitmap_bytes s → a + b ≡ list_place s slot c
  unfolding list_place
  list_place_is p q = rw (p, q)

  pub cell_place_is : {a w : ℕ} (i : ℕ) → a ≡ values_place s slot c → w ≡ width_of s c → a + i * w ≡ cell_place s slot c i
  unfolding cell_place
  cell_place_is i p q = rw (p, q)

-- slot * size + b for a slot and a column, and a + i * w for a cell
pub values_place_small : (slot size b c : ℕ) → slot ≤ 1024 → size ≤ 33751040 → b ≤ 2109440 * c → c < 16 → slot * size + b ≤ 35000000000
values_place_small slot size b c p q h l = omega (arith, mul-le-mul p q)

pub values_place_fits : (slot size b c : ℕ) → slot ≤ 1024 → size ≤ 33751040 → b ≤ 2109440 * c → c < 16 → Fits w64 (slot * size + b)
values_place_fits slot size b c p q h l = record { fits = omega (arith, values_place_small slot size b c p q h l) }

pub cell_place_small : (a i w : ℕ) → a ≤ 35000000000 → i ≤ 65536 → w ≤ 32 → a + i * w ≤ 36000000000
cell_place_small a i w h p q = omega (arith, mul-le-mul p q)

pub cell_place_fits : (a i w : ℕ) → a ≤ 35000000000 → i ≤ 65536 → w ≤ 32 → Fits w64 (a + i * w)
cell_place_fits a i w h p q = record { fits = omega (arith, mul-le-mul p q) }

-- lengths of lent memory
pub slots_length_fits : (queue size : ℕ) → queue ≤ 1024 → size ≤ 33751040 → Fits w64 ((queue + 1) * size)
slots_length_fits queue size p q =
    let h : queue + 1 ≤ 1025 = omega arith in record { fits = omega (arith, mul-le-mul h q) }

pub slots_length_is : (s : BatchCoalescer) {size : ℕ} → size ≡ slot_bytes s → (s.queue + 1) * size ≡ slots_length s
unfolding slots_length
slots_length_is s e = ap (λ (n : ℕ). (s.queue + 1) * n) e

tallies_bound : {columns queue : ℕ} → columns ≤ 16 → queue ≤ 1024 → 4 * (1 + columns) * (queue + 1) ≤ 69700
tallies_bound {columns} {queue} p q =
    let h : 4 * (1 + columns) ≤ 68 = omega arith in let k : queue + 1 ≤ 1025 = omega arith in mul-le-mul h k

pub tallies_fit : (columns queue : ℕ) → columns ≤ 16 → queue ≤ 1024 → Fits w64 (4 * (1 + columns) * (queue + 1))
tallies_fit columns queue p q = record { fits = omega (arith, tallies_bound p q) }

pub books_length_fits : (numbers columns queue : ℕ) → numbers ≤ 65536 → columns ≤ 16 → queue ≤ 1024 → Fits w64 (4 + 20 * numbers + 4 * (1 + columns) * (queue + 1))
books_length_fits numbers columns queue h p q =
    record { fits = omega (arith, tallies_bound p q) }

pub books_length_is : (s : BatchCoalescer) → 4 + 20 * s.numbers + 4 * (1 + s.columns) * (s.queue + 1) ≡ books_length s
unfolding books_length
books_length_is s = refl

-- slots in turn
pub next-first : (s : BatchCoalescer) {slot : ℕ} → s.queue ≤ slot → 0 ≡ next_slot s slot
unfolding next_slot
next-first s {slot} h = rw (le-leb s.queue slot h)

pub next_more : (s : BatchCoalescer) {slot : ℕ} → slot < s.queue → slot + 1 ≡ next_slot s slot
unfolding next_slot
next_more s {slot} h = rw (lt-leb s.queue slot h)

pub before_near : (s : BatchCoalescer) {slot k : ℕ} → k ≤ slot → slot - k ≡ slot_before s slot k
unfolding slot_before
before_near s {slot} {k} h = rw (le-leb k slot h)

pub before_far : (s : BatchCoalescer) {slot k : ℕ} → slot < k → slot + (s.queue + 1) - k ≡ slot_before s slot k
unfolding slot_before
before_far s {slot} {k} h = rw (lt-leb k slot h)

pub front_is : (s : BatchCoalescer) {r : ℕ} → r ≡ slot_before s s.place s.queued → r ≡ queued_slot s 0
unfolding queued_slot
front_is s e = e ∙ ap (slot_before s s.place) (omega arith)
