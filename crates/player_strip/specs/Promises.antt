-- What the two calls promise.
use Rattle.std.specs.Prelude.{ℕ, ◌≡◌, cond, List, [], length, eqb}
use Rattle.words.specs.Run.{put}
use Rattle.state.specs.declared.BatchCoalescer.{BatchCoalescer}
use Rattle.state.specs.World.{World, world}
use Rattle.state.specs.Layout.{rows_in, queued_slot}
use Rattle.outs.specs.Coding.{code_of, strip_of}
use Rattle.match_rows.specs.MatchRow.{after_rows, row_numbers}
use Rattle.player_strip.specs.declared.Read.{Read}
use Rattle.player_strip.specs.declared.Taken.{Taken}
use Rattle.player_strip.specs.StripCall.{front_batch, ReadAnswer, read_call, take_leaves}

-- how many rows the front batch has, as the books have it
unfoldable pub front_count : BatchCoalescer → List ℕ → ℕ
front_count s books = cond (eqb s.queued 0) 0 (rows_in (world s [] [] books) (queued_slot s 0))

-- a read of the front batch behind the tests: n rows, and what they leave
pub record ReadsFront (w : World) (strip strip' numbers numbers' : List ℕ) (n : ℕ) : Type 0 where
  pub rows_are : n ≡ length (front_batch w)
  pub strip_is : strip' ≡ code_of (after_rows (strip_of strip) (front_batch w))
  pub numbers_are : numbers' ≡ put 0 (row_numbers (strip_of strip) (front_batch w)) numbers

-- the answer r, and the bytes left, are the call's
pub record Reads (a : ReadAnswer) (strip' numbers' : List ℕ) (r : Read) : Type 0 where
  pub number_is : r.number ≡ a.number
  pub rows_are : r.rows.0 ≡ a.rows
  pub strip_is : strip' ≡ a.strip
  pub numbers_are : numbers' ≡ a.numbers

-- a take answers and leaves what a read does, and the world that a drop leaves where it was read
pub record Takes (w : World) (strip numbers books' strip' numbers' : List ℕ) (r : Taken) : Type 0 where
  pub number_is : r.number ≡ (read_call w strip numbers).number
  pub rows_are : r.rows.0 ≡ (read_call w strip numbers).rows
  pub strip_is : strip' ≡ (read_call w strip numbers).strip
  pub numbers_are : numbers' ≡ (read_call w strip numbers).numbers
  pub state_is : r.state ≡ (take_leaves w strip numbers).state
  pub books_are : books' ≡ (take_leaves w strip numbers).books
