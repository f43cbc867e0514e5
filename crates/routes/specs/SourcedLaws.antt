-- Every column decided, one after another; and what deciding asks of a batch that is pushed.
use Rattle.std.specs.Prelude.{ℕ, ◌+◌, ◌≤◌, ◌<◌, ◌≡◌, List, length, get_or, set, replicate}
use Rattle.std.proofs.Common.{◌∙◌, arith, length-set, get_or-set_same, get_or-set_other}
use Rattle.std.proofs.Math.Decide.{dec_lt}
use Rattle.std.proofs.lemmas.List.{length-replicate}
use Rattle.state.specs.declared.BatchCoalescer.{BatchCoalescer}
use Rattle.state.specs.World.{World, world}
use Rattle.state.specs.Layout.{slots_length}
use Rattle.rules.specs.Batch.{Batch, batch}
use Rattle.rules.specs.Stays.{same_refl}
use Rattle.byte_view.specs.declared.Source.{Source}
use Rattle.columns.specs.Column.{source_for, Sourceable}
use Rattle.columns.specs.Pushing.{Pushing}
use Rattle.columns.specs.SourceLaws.{sourceable}
use Rattle.push_safety.specs.Run.{Run, Readable}
use Rattle.push_safety.specs.BooksGo.{go_refl}
use Rattle.push_safety.specs.Firm.{run_firm, reads_go}
use Rattle.push_safety.specs.CallerLaws.{run_bounds}
use Rattle.routes.specs.declared.Sources.{Sources}
use Rattle.routes.specs.Sourced.{no_source, Sourced}

-- ---- the loop of set_sources

-- the first n columns are decided
pub record SourcedTo (x : List Source) (w : World) (b : Batch) (n : ℕ) : Type 0 where
  pub many : length x ≡ 16
  pub each : (c : ℕ) → c < n → get_or x c no_source ≡ source_for w b c

pub sources_none : (x : List Source) (w : World) (b : Batch) → length x ≡ 16 → SourcedTo x w b 0
sources_none x w b e = record { many = e; each = λ c l. absurd (omega arith) }

pub sources_more : {x : List Source} {w : World} {b : Batch} (c : ℕ) {r : Source} → SourcedTo x w b c → c < 16 → r ≡ source_for w b c → SourcedTo (set x c r) w b (c + 1)
sources_more {x} {w} {b} c {r} a h e =
    record { many = length-set x c r ∙ a.many; each = λ d l. go d l (dec_lt d c) }
  where
    go : (d : ℕ) → d < c + 1 → Dec (d < c) → get_or (set x c r) d no_source ≡ source_for w b d
    go d l (yes m) = get_or-set_other x c d r no_source (λ z. omega arith) ∙ a.each d m
    go d l (no m) =
        let q : d ≡ c = omega arith in
        rw q (get_or-set_same x c r no_source (omega (arith, a.many)) ∙ e)

pub sources_all : {x : Sources} {w : World} {b : Batch} {c : ℕ} → SourcedTo x.column w b c → w.state.columns ≤ c → Sourced x w b
sources_all a h = record { each = λ d l. a.each d (omega arith) }

-- ---- a batch that is pushed

module _ {s : BatchCoalescer} {books records body : List ℕ} {rows : ℕ} (p : Pushing s books (batch rows records body)) where
  -- slots and pool are read for their lengths only
  abbrev w : World
  w = world s (replicate (slots_length s) 0) (replicate s.pool.0 0) books

  run : Run w
  run =
      p.running.run (replicate (slots_length s) 0) (replicate s.pool.0 0) (length-replicate (slots_length s) 0) (length-replicate s.pool.0 0)

  reads : Readable w (batch rows records body)
  reads = reads_go {v = w} (same_refl s) (go_refl (run_firm run).books) (batch rows records body) p.reads

  -- what set_source asks
  pub source_asks : {c : ℕ} → c < s.columns → (Sourceable s books (batch rows records body) c) × (c < 16) × (rows ≤ 65536)
  source_asks {c} h =
      (sourceable run reads c h, omega (arith, (run_bounds run).columns), omega (arith, p.reads.rows_fit, (run_bounds run).rows))

  pub pushing_columns : s.columns ≤ 16
  pushing_columns = (run_bounds run).columns
