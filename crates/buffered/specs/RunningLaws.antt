-- What the tests of 1 and 14 give the steps of a call: slots and pool are read for their lengths only.
use Rattle.std.specs.Prelude.{ℕ, ◌≡◌, List, length}
use Rattle.std.proofs.Common.{sym, ◌∙◌}
use Rattle.std.specs.Prelude.{None}
use Rattle.words.specs.WordLaws.{Bytes}
use Rattle.columns.specs.Pushing.{Running}
use Rattle.push_safety.specs.Run.{Run}
use Rattle.push_safety.specs.TestedLaws.{tested-run}
use Rattle.ranges.specs.SaysLaws.{says_buffered}
use Rattle.state.specs.declared.BatchCoalescer.{BatchCoalescer}
use Rattle.state.specs.World.{world}
use Rattle.state.specs.Layout.{slots_length, list_length}
use Rattle.rules.specs.Ranges.{tested}

module _ (s : BatchCoalescer) (slots pool books slots' pool' : List ℕ) where
  run_beside : length slots' ≡ slots_length s → length pool' ≡ s.pool.0 → Run (world s slots pool books) → Run (world s slots' pool' books)
  unfolding list_length
  run_beside f g r =
      record {
        fit =
            record {
              bounds = r.fit.bounds;
              slots_are = f;
              pool_is = g;
              books_are = r.fit.books_are;
              place = r.fit.place;
              queued = r.fit.queued;
              bytes = r.fit.bytes;
            };
        used = r.used;
        inside = r.inside;
        filled = r.filled;
        lists = r.lists;
        none = r.none;
        kept = r.kept;
        block = r.block;
        room = r.room;
      }

module _ (s : BatchCoalescer) (slots pool books : List ℕ) {n : ℕ} (e : n ≡ tested (world s slots pool books)) (z : n ≡ 0) where
  pub running : Bytes books → Running s books
  running b =
      record {
        run = λ t p f g. run_beside s slots pool books t p f g (tested-run (world s slots pool books) (sym e ∙ z) b);
        below = says_buffered s slots pool books e z;
      }
