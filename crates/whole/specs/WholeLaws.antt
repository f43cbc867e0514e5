-- A batch queued whole: the rows and the list of each column, one column after another, and the slot queued.
use Rattle.std.specs.Prelude.{ℕ, ◌+◌, ◌*◌, ◌≤◌, ◌<◌, ◌≡◌, refl, true, List, [], length}
use Rattle.std.proofs.Common.{◌∙◌, ap, arith}
use Rattle.primitive.specs.declared.Rows.{Rows}
use Rattle.primitive.specs.Fits.{rows_laid}
use Rattle.primitive.specs.LaidLaws.{record_any}
use Rattle.primitive.specs.Placed.{Placed}
use Rattle.primitive.specs.PlacedLaws.{placed_copied}
use Rattle.state.specs.declared.BatchCoalescer.{BatchCoalescer}
use Rattle.state.specs.World.{World, world}
use Rattle.state.specs.Layout.{width_of, bitmap_bytes}
use Rattle.layout.specs.Few.{Few}
use Rattle.rules.specs.declared.ColumnRecord.{ColumnRecord}
use Rattle.rules.specs.Batch.{Batch, batch, record_of, has_bitmap}
use Rattle.rules.specs.Views.{span, filling, bits_copied, list_attached}
use Rattle.rules.specs.Push.{column_whole}
use Rattle.push_safety.specs.Run.{ColumnReads}
use Rattle.push_safety.specs.TestedLaws.{Bounds, bounds_say}
use Rattle.push_safety.specs.Firm.{Firm, FirmGoes, firm_trans}
use Rattle.push_safety.specs.StepGoes.{bits_firm, values_firm}
use Rattle.lists.specs.List.{Listable, Attaches}
use Rattle.lists.specs.CallerLaws.{listable_at}
use Rattle.columns.specs.SourceLaws.{list_same}
use Rattle.whole.specs.Whole.{rows_whole, Rowed, LaysRows, Columned, LaysColumn}

-- ---- bounds

firm_few : {w : World} → Firm w → Few w.state
firm_few {w} f =
    let t : Bounds w.state = bounds_say w.state f.fit.bounds in
    record { rows = t.rows; queue = t.queue; columns = t.columns; lists = t.lists; numbers = t.numbers }

-- ---- lay_rows

module _ {s : BatchCoalescer} {slots : List ℕ} {rows : ℕ} {records body : List ℕ} {c place : ℕ} (x : Rowed s slots (batch rows records body) c place) where
  pub rowed_few : Few s
  rowed_few = firm_few x.firm

  pub rowed_column : c < 16
  rowed_column = omega (arith, rowed_few.columns, x.column)

  abbrev whole : Rows
  whole = record { column = c; place = place; at = 0; from = 0; count = record { 0 = rows } }

  module _ {r : ColumnRecord} (own : r ≡ record_of (batch rows records body) c) where
    reads : ColumnReads (world s slots x.pool x.books) (batch rows records body) c
    reads = x.reads.columns c x.column

    -- what copying bits and values asks
    pub rowed_placed : Placed s s.place (length slots) r (length body) whole
    rowed_placed =
        record {
          few = rowed_few;
          in_slots_lem = x.firm.fit.place;
          in_columns = x.column;
          slots_are = x.firm.fit.slots_are;
          placed = x.placed;
          room = omega (arith, x.reads.rows_fit);
          bits = λ h.
              let z : has_bitmap (record_of (batch rows records body) c) ≡ true = rw own at h in
              rw own (omega (arith, reads.bits z));
          values = rw own (omega (arith, reads.values, plus));
        }
      where
        plus : (0 + rows) * width_of s c ≡ rows * width_of s c
        plus = let q : 0 + rows ≡ rows = omega arith in ap (λ (n : ℕ). n * width_of s c) q

    pub rowed_laid : {width size : ℕ} {slots' : List ℕ} → width ≡ width_of s c → size ≡ bitmap_bytes s → slots' ≡ rows_laid (place + s.rows.0 * width) size r body width whole slots → LaysRows s slots (batch rows records body) c slots'
    rowed_laid e f q = record { is = λ pool books. placed_copied rowed_placed e f slots pool books rows records body own q }

-- ---- copy_whole

pub rows_firm : (v : World) (b : Batch) (c : ℕ) → Firm v → FirmGoes v (rows_whole v b c)
rows_firm v b c f =
    let a : FirmGoes v (bits_copied v b (filling v) (span c 0 0 b.rows)) = bits_firm b c (filling v) 0 0 b.rows f in
    firm_trans a (values_firm b c (filling v) 0 0 b.rows a.firm)

pub whole_is : (v : World) (b : Batch) (c : ℕ) → column_whole v b c ≡ list_attached (rows_whole v b c) b c
unfolding column_whole bits_copied
whole_is v b c = refl

pub moved : {w v u : World} → v ≡ u → FirmGoes w v → FirmGoes w u
moved e z = rw (← e) z

module _ {s : BatchCoalescer} {slots books : List ℕ} {rows : ℕ} {records body : List ℕ} {c place : ℕ} (x : Columned s slots books (batch rows records body) c place) where
  abbrev b : Batch
  b = batch rows records body

  pub columned_few : Few s
  columned_few = firm_few x.firm

  pub columned_record : (c < 16) × (32 * c + 32 ≤ length records)
  columned_record = (omega (arith, columned_few.columns, x.column), omega (arith, x.reads.records_are, x.column))

  module _ {r : ColumnRecord} (e : r ≡ record_of (batch 0 records []) c) where
    own : r ≡ record_of (batch rows records body) c
    own = record_any rows records body c e

    pub columned_rows : (Rowed s slots (batch rows records body) c place) × (r ≡ record_of (batch rows records body) c)
    columned_rows = (
      record { books = books; pool = x.pool; firm = x.firm; reads = x.reads; column = x.column; placed = x.placed },
      own,
    )

    module _ {slots' : List ℕ} (k : LaysRows s slots (batch rows records body) c slots') where
      g : FirmGoes (world s slots x.pool books) (world s slots' x.pool books)
      g = moved (k.is x.pool books) (rows_firm (world s slots x.pool books) b c x.firm)

      pub columned_list : (Listable s slots' books (batch rows records body) c) × (r ≡ record_of (batch rows records body) c)
      columned_list = (
        listable_at g.firm (g.reads b x.reads) x.column (omega (arith, x.room, list_same s slots' x.pool books c s.place)),
        own,
      )

      pub columned_done : {slots'' books'' : List ℕ} → Attaches s slots' books (batch rows records body) c slots'' books'' → LaysColumn s slots books (batch rows records body) c slots'' books''
      columned_done a =
          record {
            is = λ pool. whole_is (world s slots pool books) b c ∙ ap (λ (v : World). list_attached v b c) (k.is pool books) ∙ a.is pool;
          }
