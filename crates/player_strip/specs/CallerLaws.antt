-- Laws for callers: what the front batch is, and what a read or a take leaves, done or refused.
use Rattle.std.specs.Prelude.{ℕ, ◌≤◌, ◌≡◌, ◌≢◌, List, [], length}
use Rattle.std.proofs.Common.{sym, ◌∙◌, arith, eq-eqb, ne_eqb}
use Rattle.std.proofs.Math.Path.{ap}
use Rattle.std.proofs.Math.Decide.{ℕ_discrete}
use Rattle.std.proofs.Math.ListN.{take}
use Rattle.std.proofs.Math.Seq.{take_at}
use Rattle.words.specs.Run.{put}
use Rattle.state.specs.World.{World}
use Rattle.state.specs.Rows.{taken_rows}
use Rattle.rules.specs.Ranges.{tested}
use Rattle.rules.specs.Calls.{drop_call}
use Rattle.ranges.specs.Passed.{PassedTests}
use Rattle.outs.specs.Coding.{code_of, strip_of}
use Rattle.match_rows.specs.MatchRow.{after_rows, row_numbers}
use Rattle.match_rows.proofs.MatchRowLaws.{row_numbers_length}
use Rattle.player_strip.specs.StripCall.{front_batch, read_refusal, ReadAnswer, read_call, take_leaves}
use Rattle.player_strip.specs.FrontLaws.{few_rows, count-length, count_small}

-- ---- the front batch

pub batch-some : (w : World) → w.state.queued ≢ 0 → front_batch w ≡ taken_rows w
unfolding front_batch
batch-some w n = rw (ne_eqb w.state.queued 0 n)

pub batch-none : (w : World) → w.state.queued ≡ 0 → front_batch w ≡ []
unfolding front_batch
batch-none w e = rw (eq-eqb w.state.queued 0 e)

-- ---- a call on a world, a strip's bytes and the bytes for answers

module _ (w : World) (strip numbers : List ℕ) where
  -- 01's tests come first
  pub done-tested : (room : ℕ) → read_refusal w strip room ≡ 0 → tested w ≡ 0
  unfolding read_refusal
  done-tested room z = go (ℕ_discrete (tested w) 0)
    where
      go : Dec (tested w ≡ 0) → tested w ≡ 0
      go (yes e) = e
      go (no n) = rw (ne_eqb (tested w) 0 n) at z

  pub number_is : (read_call w strip numbers).number ≡ read_refusal w strip (length numbers)
  unfolding read_call
  number_is = go (ℕ_discrete (read_refusal w strip (length numbers)) 0)
    where
      go : Dec (read_refusal w strip (length numbers) ≡ 0) → (read_call w strip numbers).number ≡ read_refusal w strip (length numbers)
      go (yes z) = rw (eq-eqb (read_refusal w strip (length numbers)) 0 z) (sym z)
      go (no n) = rw (ne_eqb (read_refusal w strip (length numbers)) 0 n)

  -- done: each row of the front batch, in order
  pub done_is : (read_call w strip numbers).number ≡ 0 → read_call w strip numbers ≡ record { number = 0; rows = length (front_batch w); strip = code_of (after_rows (strip_of strip) (front_batch w)); numbers = put 0 (row_numbers (strip_of strip) (front_batch w)) numbers }
  unfolding read_call
  done_is z = rw (eq-eqb (read_refusal w strip (length numbers)) 0 (sym number_is ∙ z))

  -- refused: nothing
  pub refused-strip : (read_call w strip numbers).number ≢ 0 → (read_call w strip numbers).strip ≡ strip
  unfolding read_call
  refused-strip n = rw (ne_eqb (read_refusal w strip (length numbers)) 0 (λ z. n (number_is ∙ z)))

  pub refused-numbers : (read_call w strip numbers).number ≢ 0 → (read_call w strip numbers).numbers ≡ numbers
  unfolding read_call
  refused-numbers n = rw (ne_eqb (read_refusal w strip (length numbers)) 0 (λ z. n (number_is ∙ z)))

  refused-rows : (read_call w strip numbers).number ≢ 0 → (read_call w strip numbers).rows ≡ 0
  unfolding read_call
  refused-rows n = rw (ne_eqb (read_refusal w strip (length numbers)) 0 (λ z. n (number_is ∙ z)))

  -- rows are few, in every world
  pub rows_few : (read_call w strip numbers).rows ≤ 65536
  rows_few = go (ℕ_discrete (read_call w strip numbers).number 0)
    where
      go : Dec ((read_call w strip numbers).number ≡ 0) → (read_call w strip numbers).rows ≤ 65536
      go (yes z) =
          let t : PassedTests w.state w.slots w.books = record { pool = w.pool; zero = done-tested (length numbers) (sym number_is ∙ z) } in
          omega (arith, ap (λ (a : ReadAnswer). a.rows) (done_is z), count-length w.state w.slots w.pool w.books, count_small w.state w.slots w.books t, few_rows w.state w.slots w.books t)
      go (no n) = omega (arith, refused-rows n)

  -- the answers of a read that is done stand in front
  pub done-answers : (read_call w strip numbers).number ≡ 0 → take (read_call w strip numbers).rows (read_call w strip numbers).numbers ≡ row_numbers (strip_of strip) (front_batch w)
  unfolding put
  done-answers z =
      ap (λ (a : ReadAnswer). take a.rows a.numbers) (done_is z)
      ∙ take_at (row_numbers (strip_of strip) (front_batch w)) _ (length (front_batch w)) (row_numbers_length (strip_of strip) (front_batch w))

  -- a take drops what it read
  pub taken-dropped : (read_call w strip numbers).number ≡ 0 → take_leaves w strip numbers ≡ (drop_call w).world
  unfolding take_leaves
  taken-dropped z = rw (eq-eqb (read_call w strip numbers).number 0 z)

  pub taken-same : (read_call w strip numbers).number ≢ 0 → take_leaves w strip numbers ≡ w
  unfolding take_leaves
  taken-same n = rw (ne_eqb (read_call w strip numbers).number 0 n)
