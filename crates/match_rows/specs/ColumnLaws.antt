-- The columns of a match: their widths, which are views, and where each begins in a slot.
use Rattle.std.specs.Prelude.{ℕ, suc, ◌+◌, ◌*◌, ◌/◌, ◌≡◌, refl, true, false, ◌&&◌, eqb}
use Rattle.std.proofs.Common.{◌∙◌, arith, eqb-true}
use Rattle.std.proofs.Math.Path.{ap}
use Rattle.std.proofs.Math.Bool.{and-eq-true_iff}
use Rattle.kinds.specs.Kind.{width_at, kind_of, is_view}
use Rattle.state.specs.declared.BatchCoalescer.{BatchCoalescer}
use Rattle.state.specs.World.{column_of}
use Rattle.state.specs.Layout.{bytes_in, width_of, is_views, values_bytes, bitmap_bytes, list_bytes, columns_bytes, slot_bytes, values_place, bitmap_place, list_place, cell_place}
use Rattle.state.proofs.LayoutLaws.{columns_next}
use Rattle.match_rows.specs.declared.Places.{Places}
use Rattle.match_rows.specs.MatchRow.{is_match}
use Rattle.match_rows.specs.Placed.{places_in}

-- what the columns of a match are
pub record Match (s : BatchCoalescer) : Type 0 where
  pub columns : s.columns ≡ 4
  pub number : (column_of s 0).kind ≡ 8
  pub side : (column_of s 1).kind ≡ 5
  pub event : (column_of s 2).kind ≡ 5
  pub name : (column_of s 3).kind ≡ 18

pub match_says : (s : BatchCoalescer) → is_match s ≡ true → Match s
unfolding is_match
match_says s e =
    let p = (and-eq-true_iff (eqb s.columns 4) (eqb (column_of s 0).kind 8 && (eqb (column_of s 1).kind 5 && (eqb (column_of s 2).kind 5 && eqb (column_of s 3).kind 18)))).0 e in
    let q = (and-eq-true_iff (eqb (column_of s 0).kind 8) (eqb (column_of s 1).kind 5 && (eqb (column_of s 2).kind 5 && eqb (column_of s 3).kind 18))).0 p.1 in
    let r = (and-eq-true_iff (eqb (column_of s 1).kind 5) (eqb (column_of s 2).kind 5 && eqb (column_of s 3).kind 18)).0 q.1 in
    let t = (and-eq-true_iff (eqb (column_of s 2).kind 5) (eqb (column_of s 3).kind 18)).0 r.1 in
    record {
      columns = eqb-true s.columns 4 p.0;
      number = eqb-true (column_of s 0).kind 8 q.0;
      side = eqb-true (column_of s 1).kind 5 r.0;
      event = eqb-true (column_of s 2).kind 5 t.0;
      name = eqb-true (column_of s 3).kind 18 t.1;
    }

-- ---- a column by its kind

width_of_lem : (s : BatchCoalescer) (c k : ℕ) → (column_of s c).kind ≡ k → width_of s c ≡ bytes_in (width_at k)
unfolding width_of
width_of_lem s c k e = ap (λ (x : ℕ). bytes_in (width_at x)) e

views_of : (s : BatchCoalescer) (c k : ℕ) → (column_of s c).kind ≡ k → is_views s c ≡ is_view k
unfolding is_views
views_of s c k e = ap is_view e

-- 01's table: UInt64, UInt8, Utf8View
long-width : bytes_in (width_at 8) ≡ 8
unfolding width_at kind_of
long-width = refl

byte_width : bytes_in (width_at 5) ≡ 1
unfolding width_at kind_of
byte_width = refl

text-width : bytes_in (width_at 18) ≡ 16
unfolding width_at kind_of
text-width = refl

long_plain : is_view 8 ≡ false
unfolding is_view kind_of
long_plain = refl

byte_plain : is_view 5 ≡ false
unfolding is_view kind_of
byte_plain = refl

text_views : is_view 18 ≡ true
unfolding is_view kind_of
text_views = refl

-- the bytes of a column in a slot
size_plain : (s : BatchCoalescer) (c w : ℕ) → width_of s c ≡ w → is_views s c ≡ false → columns_bytes s (suc c) ≡ columns_bytes s c + (s.rows.0 * w + (s.rows.0 + 7) / 8)
unfolding values_bytes bitmap_bytes list_bytes
size_plain s c w e v = columns_next s c ∙ rw (e, v) (omega arith)

size_views : (s : BatchCoalescer) (c w : ℕ) → width_of s c ≡ w → is_views s c ≡ true → columns_bytes s (suc c) ≡ columns_bytes s c + (s.rows.0 * w + ((s.rows.0 + 7) / 8 + 4 * s.lists))
unfolding values_bytes bitmap_bytes list_bytes
size_views s c w e v = columns_next s c ∙ rw (e, v)

none_before : (s : BatchCoalescer) → columns_bytes s 0 ≡ 0
unfolding columns_bytes
none_before s = refl

module _ (s : BatchCoalescer) (m : Match s) where
  -- the four widths, and which are views
  pub number-width : width_of s 0 ≡ 8
  number-width = width_of_lem s 0 8 m.number ∙ long-width

  pub side_width : width_of s 1 ≡ 1
  side_width = width_of_lem s 1 5 m.side ∙ byte_width

  pub event_width : width_of s 2 ≡ 1
  event_width = width_of_lem s 2 5 m.event ∙ byte_width

  pub name_width : width_of s 3 ≡ 16
  name_width = width_of_lem s 3 18 m.name ∙ text-width

  pub number_plain : is_views s 0 ≡ false
  number_plain = views_of s 0 8 m.number ∙ long_plain

  pub side_plain : is_views s 1 ≡ false
  side_plain = views_of s 1 5 m.side ∙ byte_plain

  pub event_plain : is_views s 2 ≡ false
  event_plain = views_of s 2 5 m.event ∙ byte_plain

  pub name_views : is_views s 3 ≡ true
  name_views = views_of s 3 18 m.name ∙ text_views

  -- where each begins in its slot
  abbrev R : ℕ
  R = s.rows.0

  one_size : columns_bytes s 1 ≡ 8 * R + (R + 7) / 8
  one_size = omega (arith, none_before s, size_plain s 0 8 number-width number_plain)

  two_size : columns_bytes s 2 ≡ 9 * R + 2 * ((R + 7) / 8)
  two_size = omega (arith, one_size, size_plain s 1 1 side_width side_plain)

  three_size : columns_bytes s 3 ≡ 10 * R + 3 * ((R + 7) / 8)
  three_size = omega (arith, two_size, size_plain s 2 1 event_width event_plain)

  four-size : columns_bytes s 4 ≡ 26 * R + 4 * ((R + 7) / 8) + 4 * s.lists
  four-size = omega (arith, three_size, size_views s 3 16 name_width name_views)

  slot_size : slot_bytes s ≡ 26 * R + 4 * ((R + 7) / 8) + 4 * s.lists
  unfolding slot_bytes
  slot_size = ap (columns_bytes s) m.columns ∙ four-size

  -- where each begins in the slots, where its bitmap does, and a row of it
  module _ (slot count : ℕ) where
    -- the places in a slot
    abbrev p : Places
    p = places_in slot R s.lists count

    numbers-at : values_place s slot 0 ≡ p.numbers
    unfolding values_place places_in
    numbers-at = rw (slot_size, none_before s) (omega arith)

    sides_at : values_place s slot 1 ≡ p.sides
    unfolding values_place places_in
    sides_at = rw (slot_size, one_size) (omega arith)

    events_at : values_place s slot 2 ≡ p.events
    unfolding values_place places_in
    events_at = rw (slot_size, two_size) (omega arith)

    names_at : values_place s slot 3 ≡ p.names
    unfolding values_place places_in
    names_at = rw (slot_size, three_size) (omega arith)

    pub number-bits : bitmap_place s slot 0 ≡ p.numbers + 8 * R
    unfolding bitmap_place values_bytes
    number-bits = rw number-width (omega (arith, numbers-at))

    pub side_bits : bitmap_place s slot 1 ≡ p.sides + R
    unfolding bitmap_place values_bytes
    side_bits = rw side_width (omega (arith, sides_at))

    pub event_bits : bitmap_place s slot 2 ≡ p.events + R
    unfolding bitmap_place values_bytes
    event_bits = rw event_width (omega (arith, events_at))

    pub name_bits : bitmap_place s slot 3 ≡ p.names + 16 * R
    unfolding bitmap_place values_bytes
    name_bits = rw name_width (omega (arith, names_at))

    pub number_cell : (i : ℕ) → cell_place s slot 0 i ≡ p.numbers + 8 * i
    unfolding cell_place
    number_cell i = rw number-width (omega (arith, numbers-at))

    pub side_cell : (i : ℕ) → cell_place s slot 1 i ≡ p.sides + i
    unfolding cell_place
    side_cell i = rw side_width (omega (arith, sides_at))

    pub event_cell : (i : ℕ) → cell_place s slot 2 i ≡ p.events + i
    unfolding cell_place
    event_cell i = rw event_width (omega (arith, events_at))

    pub name_cell : (i : ℕ) → cell_place s slot 3 i ≡ p.names + 16 * i
    unfolding cell_place
    name_cell i = rw name_width (omega (arith, names_at))

    pub list_at : list_place s slot 3 ≡ p.list
    unfolding list_place bitmap_bytes places_in
    list_at = rw name_bits
