-- What copying rows into a column of a slot asks, and the world that it leaves.
use Rattle.std.specs.Prelude.{ℕ, zero, suc, ◌+◌, ◌*◌, ◌≤◌, ◌≡◌, refl, cond, List}
use Rattle.std.proofs.Common.{sym, ◌∙◌, ap, arith, add-mul, mul-le-mul, Fits as Holds}
use Rattle.std.specs.Int.{w64}
use Rattle.words.specs.Run.{read, lay}
use Rattle.bits.specs.Bits.{appended}
use Rattle.search.specs.Cases.{by_cond}
use Rattle.state.specs.declared.BatchCoalescer.{BatchCoalescer}
use Rattle.state.specs.World.{World, world}
use Rattle.state.specs.Layout.{width_of, is_views, values_bytes, bitmap_bytes, list_bytes, columns_bytes, slot_bytes, values_place, bitmap_place, cell_place}
use Rattle.state.proofs.LayoutLaws.{bits_fit}
use Rattle.layout.specs.Few.{Few}
use Rattle.layout.specs.WidthLaws.{width_bound}
use Rattle.layout.specs.ExitLaws.{values_small}
use Rattle.layout.specs.PlaceLaws.{cells_below, bitmap_below}
use Rattle.rules.specs.declared.ColumnRecord.{ColumnRecord}
use Rattle.rules.specs.Batch.{Batch, batch, record_of}
use Rattle.rules.specs.Views.{span, bits_copied, values_copied}
use Rattle.primitive.specs.declared.Rows.{Rows}
use Rattle.primitive.specs.Fits.{bits_of, rows_laid, Bitmapped, Valued}
use Rattle.primitive.specs.LaidLaws.{bits-copied, values_copied_lem}
use Rattle.primitive.specs.Placed.{Placed}

-- ---- no place is large

-- the columns of a slot take so many bytes, and so does what lies before the values of one
columns_small : (s : BatchCoalescer) (c : ℕ) → Few s → columns_bytes s c ≤ 2109440 * c
unfolding columns_bytes values_bytes bitmap_bytes list_bytes
columns_small s zero f = omega arith
columns_small s (suc c) f =
    let v : s.rows.0 * width_of s c ≤ 65536 * 32 = mul-le-mul f.rows (width_bound s c) in
    let l : cond (is_views s c) (4 * s.lists) 0 ≤ 4096 = by_cond (λ (n : ℕ). n ≤ 4096) (is_views s c) (λ y. omega (arith, f.lists)) (λ y. omega arith) in
    omega (arith, columns_small s c f, f.rows)

pub places_small : (s : BatchCoalescer) (slot c : ℕ) → Few s → slot ≤ 1024 → c ≤ 16 → values_place s slot c ≤ 35000000000
unfolding values_place slot_bytes
places_small s slot c f h k =
    let z : columns_bytes s s.columns ≤ 33751040 = omega (arith, columns_small s s.columns f, f.columns) in
    let v : slot * columns_bytes s s.columns ≤ 1024 * 33751040 = mul-le-mul h z in
    omega (arith, columns_small s c f)

bitmap_small : (s : BatchCoalescer) → s.rows.0 ≤ 65536 → bitmap_bytes s ≤ 8192
unfolding bitmap_bytes
bitmap_small s h = omega arith

-- ---- what is asked

module _ {s : BatchCoalescer} {slot L : ℕ} {r : ColumnRecord} {body : ℕ} {p : Rows} (x : Placed s slot L r body p) where
  pub place_small : p.place ≤ 35000000000
  place_small =
      omega (arith, x.placed, places_small s slot p.column x.few (omega (arith, x.few.queue, x.in_slots_lem)) (omega (arith, x.few.columns, x.in_columns)))

  module _ {width : ℕ} (e : width ≡ width_of s p.column) where
    narrow : width ≤ 32
    narrow = rw e (width_bound s p.column)

    values_few : s.rows.0 * width ≤ 2097152
    values_few = values_small s.rows.0 width x.few.rows narrow

    -- where the bitmap begins
    pub values_hold : Holds w64 (s.rows.0 * width)
    values_hold = record { fits = omega (arith, values_few) }

    pub begin_holds : Holds w64 (p.place + s.rows.0 * width)
    begin_holds = record { fits = omega (arith, values_few, place_small) }

    pub begin_at : p.place + s.rows.0 * width ≡ bitmap_place s slot p.column
    unfolding bitmap_place values_bytes
    begin_at = rw (x.placed, e)

    pub cell_at : p.place + p.at * width ≡ cell_place s slot p.column p.at
    unfolding cell_place
    cell_at = rw (x.placed, e)

    pub placed_bits : {size : ℕ} → size ≡ bitmap_bytes s → Bitmapped L (p.place + s.rows.0 * width) size r body p
    placed_bits {size} f =
        record {
          inside = rw (begin_at, f) (bitmap_below s x.in_slots_lem x.in_columns x.slots_are);
          small = omega (arith, values_few, place_small, f, bitmap_small s x.few.rows);
          rows = omega (arith, f, bits_fit s, x.room);
          bits = x.bits;
        }

    pub placed_values : Valued L r body width p
    placed_values =
        record {
          narrow = narrow;
          small = omega (arith, place_small);
          inside =
              let l : cell_place s slot p.column p.at + p.count.0 * width ≤ L = rw e (cells_below s x.in_slots_lem x.in_columns x.slots_are p.at p.count.0 x.room) in
              omega (arith, l, cell_at, add-mul p.at p.count.0 width);
          values = rw e x.values;
        }

    pub placed_rows_lem : {size : ℕ} → size ≡ bitmap_bytes s → (Bitmapped L (p.place + s.rows.0 * width) size r body p) × (Valued L r body width p)
    placed_rows_lem f = (placed_bits f, placed_values)

-- ---- what is left

module _ {s : BatchCoalescer} {slot L : ℕ} {r : ColumnRecord} {n : ℕ} {p : Rows} (x : Placed s slot L r n p) {width size : ℕ} (e : width ≡ width_of s p.column) (f : size ≡ bitmap_bytes s)
    (slots pool books : List ℕ) (rows : ℕ) (records body : List ℕ) (own : r ≡ record_of (batch rows records body) p.column) where
  abbrev b : Batch
  b = batch rows records body

  pub placed_copied : {t : List ℕ} → t ≡ rows_laid (p.place + s.rows.0 * width) size r body width p slots
      → values_copied (bits_copied (world s slots pool books) b slot (span p.column p.at p.from p.count.0)) b slot (span p.column p.at p.from p.count.0) ≡ world s t pool books
  placed_copied {t} q =
      ap (λ (w : World). values_copied w b slot (span p.column p.at p.from p.count.0)) (sym (bits-copied s slots pool books rows records body p.column slot p.at p.from p.count.0 own (begin_at x e) f refl))
      ∙ sym (values_copied_lem s half pool books rows records body p.column slot p.at p.from p.count.0 own (cell_at x e) e q)
    where
      half : List ℕ
      half =
          lay (p.place + s.rows.0 * width) (appended (read (p.place + s.rows.0 * width) size slots) p.at (bits_of r body p.from) p.count.0) slots
