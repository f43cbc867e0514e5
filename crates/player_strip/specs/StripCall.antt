-- The strip and the front batch, 02, K6: a batch read into the strip, and a batch taken: read, then dropped, in one call.
use Rattle.std.specs.Prelude.{ℕ, cond, List, [], ◌∷◌, length, eqb, leb}
use Rattle.search.specs.InOrder.{test, in_order}
use Rattle.words.specs.Run.{put}
use Rattle.state.specs.World.{World}
use Rattle.state.specs.Rows.{Row, taken_rows}
use Rattle.rules.specs.Ranges.{tested}
use Rattle.rules.specs.Calls.{drop_call}
use Rattle.outs.specs.Coding.{strip_bytes, code_of, strip_of, is_strip}
use Rattle.match_rows.specs.MatchRow.{is_match, after_rows, row_numbers}

-- the rows of the front batch: those that the next drop takes. None where nothing is queued
unfoldable pub front_batch : World → List Row
front_batch w = cond (eqb w.state.queued 0) [] (taken_rows w)

-- the number of the refusal, 0 where there is none, beside a strip's bytes and room for so many answers. 01: "Every call after set-up tests 1, then 14";
-- then the strip's own memory, as 1 and 14 have it; then 02, K6: "30, a batch of other columns, none of it read"
unfoldable pub read_refusal : World → List ℕ → ℕ → ℕ
read_refusal w strip room =
    in_order
    (test (eqb (tested w) 0) (tested w)
    ∷ test (eqb (length strip) strip_bytes) 1
    ∷ test (leb (length (front_batch w)) room) 1
    ∷ test (is_strip strip) 14
    ∷ test (is_match w.state) 30
    ∷ [])
    0

-- what a read answers and leaves: a number, how many rows were read, the strip's bytes, and the answers, one byte a row
pub record ReadAnswer : Type 0 where
  pub number : ℕ
  pub rows : ℕ
  pub strip : List ℕ
  pub numbers : List ℕ

-- 02, K6: "The strip after any batches equals the queue worked out from the rows in order"; "then row by row". A refusal changes nothing
unfoldable pub read_call : World → List ℕ → List ℕ → ReadAnswer
read_call w strip numbers =
    cond (eqb (read_refusal w strip (length numbers)) 0)
    (record {
      number = 0;
      rows = length (front_batch w);
      strip = code_of (after_rows (strip_of strip) (front_batch w));
      numbers = put 0 (row_numbers (strip_of strip) (front_batch w)) numbers;
    })
    (record { number = read_refusal w strip (length numbers); rows = 0; strip = strip; numbers = numbers })

-- the world after a take: the batch is dropped where it was read
unfoldable pub take_leaves : World → List ℕ → List ℕ → World
take_leaves w strip numbers = cond (eqb (read_call w strip numbers).number 0) (drop_call w).world w
