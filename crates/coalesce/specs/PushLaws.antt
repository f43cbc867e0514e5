-- What the tests of a push give its steps: a law for each exit.
use Rattle.std.specs.Prelude.{ℕ, ◌≡◌, refl, Bool, true, List, [], Result, Ok}
use Rattle.std.proofs.Common.{sym, ◌∙◌}
use Rattle.columns.specs.Pushing.{Pushing}
use Rattle.push_safety.specs.Run.{Readable}
use Rattle.push_safety.specs.TestedLaws.{tested-run}
use Rattle.push_safety.specs.ReadLaws.{fault_readable}
use Rattle.ranges.specs.SaysLaws.{says-pool, says_slots}
use Rattle.state.specs.declared.BatchCoalescer.{BatchCoalescer}
use Rattle.state.specs.World.{world}
use Rattle.rules.specs.Batch.{Batch, value_place, row_view}
use Rattle.rules.specs.Views.{source_place}
use Rattle.rules.specs.Ranges.{tested}
use Rattle.trial.specs.UnmarkedLaws.{tested_unmarked}
use Rattle.routes.specs.declared.Sources.{Sources}
use Rattle.routes.specs.Sourced.{Sourced}
use Rattle.trial_truth.specs.OwnLaws.{tested_own}
use Rattle.judging.specs.Judging.{Judges}
use Rattle.judging.specs.JudgeLaws.{verdict_go}
use Rattle.buffered.specs.RunningLaws.{running}
use Rattle.coalesce.specs.Push.{Ready}

-- ---- slots and pool are read for their lengths only

module _ (s : BatchCoalescer) (slots pool books slots' pool' : List ℕ) where
  reads_beside : (b : Batch) → Readable (world s slots pool books) b → Readable (world s slots' pool' books) b
  unfolding value_place row_view source_place
  reads_beside b r =
      record {
        records_are = r.records_are;
        rows_fit = r.rows_fit;
        columns = λ c h.
            let x = r.columns c h in
            record { values = x.values; bits = x.bits; listed = x.listed; held = x.held; plain = x.plain };
        long = λ c i h v l m. let x = r.long c i h v l m in record { index = x.index; source = x.source };
      }

-- what push_judged asks, where the verdict is to go on
pub ready : {s : BatchCoalescer} {slots pool books : List ℕ} {b : Batch} {v : Result Bool ℕ} → Judges s slots pool books b v → v ≡ Ok true → Ready s slots pool books b
ready {s} {slots} {pool} {books} {b} j g =
    let x = verdict_go (world s slots pool books) b (sym j.verdict_is ∙ g) in
    let z : tested (world s slots pool books) ≡ 0 = x.passed in
    record {
      pushing =
          record {
            running = running s slots pool books (sym z) refl j.bytes;
            reads =
                reads_beside s slots pool books [] [] b
                (fault_readable (world s slots pool books) b (tested-run (world s slots pool books) z j.bytes) x.some x.faultless);
            some = x.some;
          };
      unmarked = tested_unmarked (world s slots pool books) z;
      own = tested_own (world s slots pool books) z;
      slots_are = says_slots s slots pool books (sym z) refl;
      pool_is = says-pool s slots pool books (sym z) refl;
    }

-- what the steps ask, after the trial: its books are those before it
module _ {s : BatchCoalescer} {slots pool books books' : List ℕ} {b : Batch} (a : Ready s slots pool books b) (r : books' ≡ books) where
  pub tried-pushing : Pushing s books' b
  tried-pushing = rw r a.pushing

  pub tried_sourced : {x : Sources} → Sourced x (world s [] [] books) b → Sourced x (world s [] [] books') b
  tried_sourced q = rw r q
