-- Queueing a batch whole: what its steps ask, and what they leave.
use Rattle.std.specs.Prelude.{ℕ, ◌+◌, ◌≤◌, ◌<◌, ◌≡◌, List, [], length}
use Rattle.state.specs.declared.BatchCoalescer.{BatchCoalescer}
use Rattle.state.specs.World.{World, world}
use Rattle.state.specs.Layout.{values_place, slots_length, list_length}
use Rattle.rules.specs.Batch.{Batch, record_of}
use Rattle.rules.specs.Steps.{bind, each}
use Rattle.rules.specs.Views.{span, filling, bits_copied, values_copied}
use Rattle.rules.specs.Push.{finished, column_whole, queued_whole}
use Rattle.rules.specs.declared.Step.{Step}
use Rattle.rules.specs.Leaves.{Steps}
use Rattle.push_safety.specs.Run.{Readable}
use Rattle.push_safety.specs.Firm.{Firm}
use Rattle.open_blocks.specs.Open.{Booked}

-- ---- rows and lists

-- its rows have a place in column c of the slot being filled
pub record Rowed (s : BatchCoalescer) (slots : List ℕ) (b : Batch) (c place : ℕ) : Type 0 where
  pub books : List ℕ
  pub pool : List ℕ
  pub firm : Firm (world s slots pool books)
  pub reads : Readable (world s slots pool books) b
  pub column : c < s.columns
  pub placed : place ≡ values_place s s.place c

-- column c but for its list
abbrev pub rows_whole : World → Batch → ℕ → World
rows_whole v b c = values_copied (bits_copied v b (filling v) (span c 0 0 b.rows)) b (filling v) (span c 0 0 b.rows)

-- the slots with those rows laid, whatever pool and books stand beside them
pub record LaysRows (s : BatchCoalescer) (slots : List ℕ) (b : Batch) (c : ℕ) (slots' : List ℕ) : Type 0 where
  pub is : (pool books : List ℕ) → rows_whole (world s slots pool books) b c ≡ world s slots' pool books

-- and its list has one too
pub record Columned (s : BatchCoalescer) (slots books : List ℕ) (b : Batch) (c place : ℕ) : Type 0 where
  pub pool : List ℕ
  pub firm : Firm (world s slots pool books)
  pub reads : Readable (world s slots pool books) b
  pub column : c < s.columns
  pub placed : place ≡ values_place s s.place c
  pub room : list_length (world s [] [] books) s.place c + (record_of b c).count ≤ s.lists

-- slots and books with column c laid. 01: "Queued whole: views unchanged, list listed as given"
pub record LaysColumn (s : BatchCoalescer) (slots books : List ℕ) (b : Batch) (c : ℕ) (slots' books' : List ℕ) : Type 0 where
  pub is : (pool : List ℕ) → column_whole (world s slots pool books) b c ≡ world s slots' pool books'

-- state, books and batch are in order
pub record Asks (s : BatchCoalescer) (slots books : List ℕ) (b : Batch) : Type 0 where
  pub booked : Booked s books
  pub slots_are : length slots ≡ slots_length s
  pub reads : Readable (world s [] [] books) b
  pub below : s.buffered.0 < s.target.0

-- and every column's list has room
pub record Wholly (s : BatchCoalescer) (slots books : List ℕ) (b : Batch) : Type 0 where
  pub asks : Asks s slots books b
  pub room : (c : ℕ) → c < s.columns → list_length (world s [] [] books) s.place c + (record_of b c).count ≤ s.lists

-- the first c columns
pub record LaysColumns (s : BatchCoalescer) (slots books : List ℕ) (b : Batch) (c : ℕ) (slots' books' : List ℕ) : Type 0 where
  pub is : (pool : List ℕ) → each c (λ v i. column_whole v b i) (world s slots pool books) ≡ world s slots' pool books'

-- 01, step 2: "queue the batch whole"
pub record QueuesWhole (s : BatchCoalescer) (slots books : List ℕ) (b : Batch) (q : Step) (slots' books' : List ℕ) : Type 0 where
  pub steps : (pool : List ℕ) → Steps (queued_whole (world s slots pool books) b) q slots' pool books'

-- 01, step 2: "finish the buffered rows, then queue it whole"
pub record QueuesFirst (s : BatchCoalescer) (slots books : List ℕ) (b : Batch) (q : Step) (slots' books' : List ℕ) : Type 0 where
  pub steps : (pool : List ℕ) → Steps (bind (finished (world s slots pool books)) (λ v. queued_whole v b)) q slots' pool books'
