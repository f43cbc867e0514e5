-- What closing and opening the block of a column asks, and what it leaves.
use Rattle.std.specs.Prelude.{ℕ, ◌<◌, ◌≡◌, true, List, length}
use Rattle.counts.specs.declared.ByteSum.{ByteSum}
use Rattle.blocks.specs.Block.{asked}
use Rattle.room.specs.Room.{opened}
use Rattle.rules.specs.Views.{closed, opening, block_opened}
use Rattle.state.specs.declared.BatchCoalescer.{BatchCoalescer}
use Rattle.state.specs.World.{world, column_of}
use Rattle.state.specs.Layout.{is_views, slots_length}
use Rattle.rules.specs.declared.Step.{Step}
use Rattle.rules.specs.Leaves.{Steps}
use Rattle.push_safety.specs.Run.{Run}

-- ---- what is asked

-- state and books are in order, whatever slots and pool of the right lengths are lent beside them
pub record Booked (s : BatchCoalescer) (books : List ℕ) : Type 0 where
  pub run : (slots pool : List ℕ) → length slots ≡ slots_length s → length pool ≡ s.pool.0 → Run (world s slots pool books)

-- a column of views of the slot being filled
pub record FillingViews (s : BatchCoalescer) (slots books : List ℕ) (c : ℕ) : Type 0 where
  pub booked : Booked s books
  pub slots_are : length slots ≡ slots_length s
  pub column : c < s.columns
  pub views : is_views s c ≡ true

-- ---- what is left

-- the open block of column c is closed
pub record ClosesBlock (s : BatchCoalescer) (slots books : List ℕ) (c : ℕ) (t : BatchCoalescer) (slots' books' : List ℕ) : Type 0 where
  pub is : (pool : List ℕ) → closed (world s slots pool books) c ≡ world t slots' pool books'

-- a block is opened where its list has a place for it, or none is
pub record OpensNext (s : BatchCoalescer) (books : List ℕ) (c : ℕ) (min : ByteSum) (q : Step) (books' : List ℕ) : Type 0 where
  pub steps : (slots pool : List ℕ) → Steps (opening (world s slots pool books) c min.0 (opened books s.numbers s.pool.0 (asked (column_of s c).source min).size.0)) q slots pool books'

-- a block is opened, or none is
pub record OpensBlock (s : BatchCoalescer) (books : List ℕ) (c min : ℕ) (q : Step) (books' : List ℕ) : Type 0 where
  pub steps : (slots pool : List ℕ) → length pool ≡ s.pool.0 → Steps (block_opened (world s slots pool books) c min) q slots pool books'
