-- The tests of a push, by cases.
use Rattle.std.specs.Prelude.{ℕ, ◌≡◌, Bool, true, false, cond, List, eqb, Result, Ok, Err}
use Rattle.std.specs.Prelude.{Option, None, Some}
use Rattle.words.specs.WordLaws.{Bytes}
use Rattle.state.specs.declared.BatchCoalescer.{BatchCoalescer}
use Rattle.state.specs.World.{World, world}
use Rattle.rules.specs.declared.Fault.{Fault}
use Rattle.rules.specs.Batch.{Batch}
use Rattle.rules.specs.Checks.{batch_fault}
use Rattle.rules.specs.Ranges.{tested}

-- the first fault of a batch refuses it by its number; with none the push goes on
abbrev pub of_fault : Option Fault → Result Bool ℕ
of_fault None = Ok true
of_fault (Some f) = Err f.number

-- 01: "Order for a push: 1, 14, then step 1, then 2, 3, then per column 4, 5, 6, and 7 by rows."; step 1: "0 rows: done, nothing changes,
-- before any batch check." Whether there are rows to push, or the number of the refusal
unfoldable pub verdict_of : World → Batch → Result Bool ℕ
verdict_of w b =
    cond (eqb (tested w) 0) (cond (eqb b.rows 0) (Ok false) (of_fault (batch_fault w b))) (Err (tested w))

-- what judge answers: the verdict; and the books it read are bytes
pub record Judges (s : BatchCoalescer) (slots pool books : List ℕ) (b : Batch) (r : Result Bool ℕ) : Type 0 where
  pub verdict_is : r ≡ verdict_of (world s slots pool books) b
  pub bytes : Bytes books
