-- What callers have of a part of a column: that it may be copied, that its list may be attached, and which definition it is.
use Rattle.std.specs.Prelude.{ℕ, ◌+◌, ◌≤◌, ◌<◌, ◌≡◌}
use Rattle.std.proofs.Common.{sym, ◌∙◌}
use Rattle.std.proofs.Math.Path.{ap}
use Rattle.std.proofs.Math.Bool.{cond}
use Rattle.byte_view.specs.declared.Source.{Source}
use Rattle.primitive.specs.declared.Rows.{Rows}
use Rattle.rules.specs.declared.ColumnRecord.{ColumnRecord}
use Rattle.rules.specs.declared.Way.{Way}
use Rattle.rules.specs.Batch.{Batch, record_of, way, ideal}
use Rattle.rules.specs.Views.{column_copied}
use Rattle.rules.specs.Stays.{SameSetUp}
use Rattle.rules.specs.SameLaws.{same_views, same-ideal}
use Rattle.state.specs.World.{World}
use Rattle.state.specs.Layout.{is_views, values_place}
use Rattle.columns.specs.Column.{source_for}
use Rattle.columns.specs.SourceLaws.{source-way, source-ideal}
use Rattle.push_safety.specs.Run.{Run, Readable}
use Rattle.in_progress.specs.Part.{Part, Decided, copied_by}

-- rows that may be copied
pub part_of : {w : World} {b : Batch} {r : ColumnRecord} {p : Rows} → Run w → Readable w b → p.column < w.state.columns → r ≡ record_of b p.column → p.place ≡ values_place w.state w.state.place p.column → p.from + p.count.0 ≤ b.rows → p.at + p.count.0 ≤ w.state.rows.0 → Part w b r p
part_of run reads h e q t m =
    record { run = run; reads = reads; column = h; recorded = e; placed = q; there = t; room = m }

-- ---- what was decided at the beginning of the push, w₀

module _ (w₀ w : World) (b : Batch) (c : ℕ) (e : SameSetUp w₀.state w.state) {x : Source} (q : x ≡ source_for w₀ b c) where
  pub decided_at : Decided w b c x
  decided_at =
      record {
        ideal_is = λ y.
            ap (λ (z : Source). z.ideal.0) q ∙ source-ideal w₀ b c (sym (same_views e c) ∙ y) ∙ sym (same-ideal w₀ w b e c);
        plain = λ y. way_at ∙ rw (y);
      }
    where
      way_at : x.way ≡ cond (is_views w.state c) (way w₀ b c) Way.Copied
      way_at = ap (λ (z : Source). z.way) q ∙ source-way w₀ b c ∙ rw (same_views e c)

  -- and the rows copied so are those of the definition
  pub copied_is : (p : Rows) → p.column ≡ c → p.at ≡ w.state.buffered.0 → copied_by w b p x.way ≡ column_copied w₀ w b c p.from p.count.0
  unfolding copied_by column_copied
  copied_is p f g =
      let h : x.way ≡ cond (is_views w.state c) (way w₀ b c) Way.Copied = ap (λ (z : Source). z.way) q ∙ source-way w₀ b c ∙ rw (same_views e c) in
      rw (f, g, h)
