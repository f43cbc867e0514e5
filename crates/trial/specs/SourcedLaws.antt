-- What a push on trial has of a batch whose columns are decided.
use Rattle.std.specs.Prelude.{ℕ, ◌≤◌, ◌<◌, ◌≡◌, refl, Bool, true, false, cond, List, []}
use Rattle.std.proofs.Common.{sym, ◌∙◌, ap, arith}
use Rattle.state.specs.declared.BatchCoalescer.{BatchCoalescer}
use Rattle.state.specs.World.{world}
use Rattle.state.specs.Layout.{is_views}
use Rattle.state.proofs.LayoutLaws.{views_width}
use Rattle.rules.specs.declared.Way.{Way}
use Rattle.rules.specs.Batch.{Batch, batch, way}
use Rattle.rules.specs.Stays.{same_refl}
use Rattle.byte_view.specs.declared.Source.{Source}
use Rattle.columns.specs.Pushing.{Pushing}
use Rattle.columns.specs.SourceLaws.{source-way}
use Rattle.push_safety.specs.Run.{Readable}
use Rattle.push_safety.specs.BooksGo.{go_refl}
use Rattle.push_safety.specs.Firm.{run_firm, reads_go}
use Rattle.routes.specs.declared.Sources.{Sources}
use Rattle.routes.specs.Sourced.{Sourced}
use Rattle.trial_column.specs.Trying.{Trying}
use Rattle.trial.specs.Tried.{Triable}
use Rattle.trial_column.specs.TryingLaws.{running_trying, trying_bounds}

-- ---- a batch that is pushed

-- it can be read beside some slots and some pool
pub pushing_reads : {s : BatchCoalescer} {books : List ℕ} {b : Batch} → Pushing s books b → (x : Trying s books) → Readable (world s x.slots x.pool books) b
pushing_reads {s} {books} {b} p x =
    reads_go {w = world s [] [] books} {v = world s x.slots x.pool books} (same_refl s) (go_refl (run_firm x.run).books) b p.reads

module _ {s : BatchCoalescer} {books records body : List ℕ} {rows : ℕ} (p : Pushing s books (batch rows records body)) where
  abbrev x : Trying s books
  x = running_trying p.running

  rows_few : rows ≤ 65536
  rows_few = omega (arith, p.reads.rows_fit, (trying_bounds x).rows)

  -- what the trial asks
  pub pushing_triable : {y : Sources} → Sourced y (world s [] [] books) (batch rows records body) → Triable s y (batch rows records body)
  pushing_triable {y} d =
      record {
        records_are = p.reads.records_are;
        rows_fit = rows_few;
        values = λ c h v. rw (views_width s c v) at (p.reads.columns c h).values;
        viewed = λ c h z. compacts c (is_views s c) refl (sym (ap (λ (u : Source). u.way) (d.each c h) ∙ source-way (world s [] [] books) (batch rows records body) c) ∙ z);
      }
    where
      compacts : (c : ℕ) (v : Bool) → is_views s c ≡ v → cond (is_views s c) (way (world s [] [] books) (batch rows records body) c) Way.Copied ≡ Way.Compacted → is_views s c ≡ true
      compacts c true e q = e
      compacts c false e q =
          let o : Way.Copied ≡ Way.Compacted = rw e at q in
          let z : ◌≡◌ {A = ℕ} 0 1 = cc in absurd (omega arith)

  pub pushing_trying : Trying s books
  pushing_trying = x

  pub pushing-below : s.buffered.0 < s.target.0
  pushing-below = p.running.below
