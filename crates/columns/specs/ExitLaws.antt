-- One law for each exit of a function here: what the code has learnt there, and its contract; and what its calls ask.
use Rattle.std.specs.Prelude.{ℕ, ◌+◌, ◌*◌, ◌≤◌, ◌≡◌, Bool, true, false, List, [], length, set}
use Rattle.std.proofs.Common.{sym, ◌∙◌, ap, arith}
use Rattle.counts.specs.declared.BufferNumber.{BufferNumber}
use Rattle.counts.specs.declared.ByteSum.{ByteSum}
use Rattle.blocks.specs.declared.BufferSource.{BufferSource}
use Rattle.state.specs.declared.BatchCoalescer.{BatchCoalescer}
use Rattle.state.specs.declared.Column.{Column}
use Rattle.state.specs.World.{world, column_of}
use Rattle.state.specs.Layout.{is_views, list_length}
use Rattle.state.proofs.LayoutLaws.{views_width}
use Rattle.rules.specs.declared.ColumnRecord.{ColumnRecord}
use Rattle.rules.specs.declared.Way.{Way}
use Rattle.rules.specs.Batch.{Batch, batch, record_of, value_place, ideal, actual, way_of, way}
use Rattle.rules.specs.Copies.{views_at, long_to}
use Rattle.rules.specs.Steps.{with_column}
use Rattle.rules.specs.Views.{has_block, is_open}
use Rattle.byte_view.specs.Copying.{capacities, Entered}
use Rattle.byte_view.specs.RuleLaws.{ideal_is, actual_is}
use Rattle.records.specs.RecordLaws.{record_same}
use Rattle.columns.specs.Column.{source_for, closed_length, Sourceable}
use Rattle.std.specs.Prelude.{Option, Some, None}

-- with_column: the kind is the column's own
pub kept_kind : (s : BatchCoalescer) (c : ℕ) (source : BufferSource) (block : Option BufferNumber) {k : Column} → k ≡ column_of s c → set s.column c (record { kind = k.kind; source = source; block = block }) ≡ (with_column s c source block).column
kept_kind s c source block e =
    ap (λ (x : Column). set s.column c (record { kind = x.kind; source = source; block = block })) e

first_value : (s : BatchCoalescer) (books : List ℕ) (b : Batch) (c : ℕ) → value_place (world s [] [] books) b c 0 ≡ (record_of b c).values
unfolding value_place
first_value s books b c = omega arith

-- set_source
module _ (s : BatchCoalescer) (books records body : List ℕ) (rows c : ℕ) {v : Bool} (p : v ≡ is_views s c) where
  -- a column that is not of views
  pub source_other : v ≡ false → (record { ideal = record { 0 = 0 }; way = Way.Copied }) ≡ source_for (world s [] [] books) (batch rows records body) c
  unfolding source_for
  source_other x = rw (← p, x)

  module _ (x : v ≡ true) {r : ColumnRecord} (q : r ≡ record_of (batch 0 records []) c) where
    is_record : r ≡ record_of (batch rows records body) c
    is_record = q ∙ record_same records body rows c

    -- its views and its list may be read
    pub values_read : Sourceable s books (batch rows records body) c → r.values + rows * 16 ≤ length body
    values_read y = rw is_record (y.values (sym p ∙ x))

    pub list_entered : Sourceable s books (batch rows records body) c → Entered books body r.list r.count
    list_entered y = rw is_record (y.entered (sym p ∙ x))

    module _ {i a : ByteSum} (e : i.0 ≡ long_to (views_at body r.values) rows) (f : a.0 ≡ capacities books body r.list r.count) where
      ideal-same : i.0 ≡ ideal (world s [] [] books) (batch rows records body) c
      ideal-same =
          e
          ∙ ap (λ (n : ℕ). long_to (views_at body n) rows) (ap (λ (z : ColumnRecord). z.values) is_record ∙ sym (first_value s books (batch rows records body) c))
          ∙ sym (ideal_is (world s [] [] books) (batch rows records body) c (views_width s c (sym p ∙ x)))

      actual-same : a.0 ≡ actual (world s [] [] books) (batch rows records body) c
      actual-same =
          f
          ∙ ap (λ (z : ColumnRecord). capacities books body z.list z.count) is_record
          ∙ sym (actual_is (world s [] [] books) (batch rows records body) c)

      -- a column of views
      pub source_views : {y : Way} → y ≡ way_of i.0 a.0 → (record { ideal = i; way = y }) ≡ source_for (world s [] [] books) (batch rows records body) c
      unfolding source_for way
      source_views g = rw (← p, x, g, ← ideal-same, ← actual-same)

-- list_closed: no open block, or one
module _ (s : BatchCoalescer) (books : List ℕ) (c : ℕ) {n : ℕ} {k : Column} (p : n ≡ list_length (world s [] [] books) s.place c) (q : k ≡ column_of s c) where
  has_block_lem : {o : Option BufferNumber} → k.block ≡ o → is_open (world s [] [] books) c ≡ has_block o
  has_block_lem e = ap has_block (sym (ap (λ (x : Column). x.block) q) ∙ e)

  pub closed_none : k.block ≡ None → n ≡ closed_length (world s [] [] books) c
  unfolding closed_length
  closed_none e = rw (has_block_lem e) p

  pub closed_one : {j : BufferNumber} → k.block ≡ Some j → n + 1 ≡ closed_length (world s [] [] books) c
  unfolding closed_length
  closed_one {j} e = rw (has_block_lem e) (ap (λ (m : ℕ). m + 1) p)
