-- A push that goes on, beside the state and the books of its trial.
use Rattle.std.specs.Prelude.{ℕ, ◌+◌, ◌≤◌, ◌<◌, ◌≡◌, ◌≢◌, true, false, List, []}
use Rattle.books.specs.Entry.{used_of, entry_of, is_free}
use Rattle.blocks.specs.Block.{asked}
use Rattle.listings.specs.Listing.{taken}
use Rattle.room.specs.declared.Room.{Room}
use Rattle.room.specs.Room.{block_room, entry_at}
use Rattle.state.specs.declared.BatchCoalescer.{BatchCoalescer}
use Rattle.state.specs.World.{World, world, column_of}
use Rattle.state.specs.Layout.{is_views, list_length}
use Rattle.rules.specs.declared.ColumnRecord.{ColumnRecord}
use Rattle.rules.specs.declared.Way.{Way}
use Rattle.rules.specs.Batch.{Batch, batch, record_of, ideal}
use Rattle.rules.specs.Views.{span, part_attached, part_compacted, by_way}
use Rattle.byte_view.specs.declared.Source.{Source}
use Rattle.rules.specs.Steps.{Res, ok, refuse, with_column}
use Rattle.rules.specs.Stays.{SameSetUp}
use Rattle.rules.specs.declared.Step.{Step}
use Rattle.push_safety.specs.Run.{Run, Readable}
use Rattle.push_safety.specs.Along.{Along}
use Rattle.trial_truth.specs.Alike.{Alike}
use Rattle.std.specs.Prelude.{Some, Ok, Err}

-- the number that a result refuses with, and 0 where it does not
abbrev pub number_of : Res → ℕ
number_of (ok w) = 0
number_of (refuse number) = number

-- a block that column c has open
pub record ColumnOpens (s : BatchCoalescer) (c k : ℕ) : Type 0 where
  pub column : c < s.columns
  pub views : is_views s c ≡ true
  pub block : (column_of s c).block ≡ Some (record { 0 = k })

-- an open block is a buffer in use, and no two columns have the same. Every history leaves them so: `between-orderly`, in crates/promise
pub record OwnBlocks (s : BatchCoalescer) (books : List ℕ) : Type 0 where
  pub live : (c k : ℕ) → ColumnOpens s c k → is_free (entry_of books k) ≡ false
  pub apart : (c d k : ℕ) → ColumnOpens s c k → ColumnOpens s d k → c ≡ d

-- a list that the push has not touched: of a slot that is filled or to be filled yet, where m columns of the one have had their part
pub record Untouched (s : BatchCoalescer) (m slot c : ℕ) : Type 0 where
  pub later : s.place ≤ slot → slot + s.queued ≤ s.place + s.queue
  pub around : slot < s.place → slot + s.queued < s.place
  pub here : slot ≡ s.place → m ≤ c

-- v is the world of the push where s and `books` are those of its trial: the same would be chosen; the lists that are not touched are as long;
-- and the blocks of columns that have not had their part are filled as far
pub record Like (s : BatchCoalescer) (books : List ℕ) (b : Batch) (m : ℕ) (v : World) : Type 0 where
  pub run : Run v
  pub reads : Readable v b
  pub set_up : SameSetUp s v.state
  pub place : v.state.place ≡ s.place
  pub queued : v.state.queued ≡ s.queued
  pub alike : Alike books v.books s.numbers
  pub lists : (slot c : ℕ) → c < s.columns → Untouched s m slot c → list_length v slot c ≡ list_length (world s [] [] books) slot c
  pub live : (c k : ℕ) → m ≤ c → ColumnOpens s c k → (k < used_of books) × (is_free (entry_of books k) ≡ false)
  pub filled : (c k : ℕ) → m ≤ c → ColumnOpens s c k → (entry_of v.books k).length.0 ≡ (entry_of books k).length.0
  pub apart : (c d k : ℕ) → m ≤ c → c < d → ColumnOpens s c k → ColumnOpens s d k → ⊥

-- the push has a world where the trial has the state t
pub record Reached (x : Res) (t : BatchCoalescer) (books : List ℕ) (b : Batch) (m : ℕ) : Type 0 where
  pub world : World
  pub is : x ≡ ok world
  pub state : world.state ≡ t
  pub like : Like t books b m world

-- the push goes on as its trial does, or is refused with its number
pub record Follows (x : Res) (b : Batch) (m : ℕ) (q : Step) (books : List ℕ) : Type 0 where
  pub done : q.number ≡ 0 → Reached x q.state books b m
  pub not : q.number ≢ 0 → x ≡ refuse q.number

-- what the part of column c makes of a world: its own list is longer, its own block is filled further or closed
pub record ColumnMoves (c : ℕ) (v v' : World) : Type 0 where
  pub along : Along v v'
  pub alike : Alike v.books v'.books v.state.numbers
  pub lists : (slot d : ℕ) → d < v.state.columns → (slot ≡ v.state.place → d ≢ c) → list_length v' slot d ≡ list_length v slot d
  pub length : (k : ℕ) → k < used_of v.books → ((column_of v.state c).block ≡ Some (record { 0 = k }) → ⊥) → (entry_of v'.books k).length.0 ≡ (entry_of v.books k).length.0
  pub block : (k : ℕ) → (column_of v'.state c).block ≡ Some (record { 0 = k }) → (column_of v.state c).block ≡ Some (record { 0 = k })

-- a step that nothing refuses, and that leaves state and lists
pub record LeavesLists (c : ℕ) (v : World) (x : Res) : Type 0 where
  pub world : World
  pub is : x ≡ ok world
  pub state : world.state ≡ v.state
  pub lists : (slot d : ℕ) → list_length world slot d ≡ list_length v slot d
  pub moves : ColumnMoves c v world

-- ---- a block opened on trial

-- the size that column c asks for a minimum
abbrev pub size_for : BatchCoalescer → ℕ → ℕ → ℕ
size_for s c min = (asked (column_of s c).source (record { 0 = min })).size.0

-- what try_buffer leaves where there is room: the block, marked
pub record Took (s : BatchCoalescer) (books : List ℕ) (c min : ℕ) (room : Room) (q : Step) (books' : List ℕ) : Type 0 where
  pub number : q.number ≡ 0
  pub state : q.state ≡ with_column s c (asked (column_of s c).source (record { 0 = min })).source (Some room.number)
  pub books_are : books' ≡ taken books room.number.0 (entry_at room.start (size_for s c min) 0 2 0)

-- 10 where the list of n numbers is full; else as is chosen
pub record Buffers (s : BatchCoalescer) (books : List ℕ) (c n min : ℕ) (q : Step) (books' : List ℕ) : Type 0 where
  pub full : s.lists ≤ n → q.number ≡ 10
  pub refused : n < s.lists → (number : ℕ) → block_room books s.numbers s.pool.0 (size_for s c min) ≡ Err number → q.number ≡ number
  pub opened : n < s.lists → (room : Room) → block_room books s.numbers s.pool.0 (size_for s c min) ≡ Ok room → Took s books c min room q books'

-- ---- a column on trial, whatever world of a push it stands for

-- a part attached
pub record TellsAttached (s : BatchCoalescer) (books : List ℕ) (r : ColumnRecord) (c : ℕ) (q : Step) : Type 0 where
  pub tells : (b : Batch) (v : World) (at from n : ℕ) → r ≡ record_of b c → is_views s c ≡ true → v.state ≡ s → Like s books b c v → Follows (part_attached v b (span c at from n)) b (c + 1) q books

-- a part compacted
pub record TellsCompacted (s : BatchCoalescer) (books body : List ℕ) (r : ColumnRecord) (size c from n : ℕ) (q : Step) (books' : List ℕ) : Type 0 where
  pub tells : (rows : ℕ) (records : List ℕ) (v : World) (at : ℕ) → r ≡ record_of (batch rows records body) c → from + n ≤ rows → size ≡ ideal v (batch rows records body) c → v.state ≡ s → Like s books (batch rows records body) c v → Follows (part_compacted v (batch rows records body) (span c at from n)) (batch rows records body) (c + 1) q books'

-- a column of the batch whose part is tried: its record r, and what was decided of it in the world v of the push
pub record ColumnBegins (s : BatchCoalescer) (books : List ℕ) (b : Batch) (r : ColumnRecord) (x : Source) (c : ℕ) (v : World) : Type 0 where
  pub recorded : r ≡ record_of b c
  pub ideal_is : is_views s c ≡ true → x.ideal.0 ≡ ideal v b c
  pub plain : is_views s c ≡ false → x.way ≡ Way.Copied
  pub state : v.state ≡ s
  pub like : Like s books b c v

-- its part, the way that was decided
pub record TellsColumn (s : BatchCoalescer) (books body : List ℕ) (r : ColumnRecord) (x : Source) (c from n : ℕ) (q : Step) (books' : List ℕ) : Type 0 where
  pub tells : (rows : ℕ) (records : List ℕ) (v : World) (at : ℕ) → from + n ≤ rows → ColumnBegins s books (batch rows records body) r x c v → Follows (by_way v (batch rows records body) (span c at from n) x.way) (batch rows records body) (c + 1) q books'
