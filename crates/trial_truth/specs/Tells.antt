-- What the trial of each step tells of the push, whatever world it stands for. w₀ is the world in which the columns were decided.
use Rattle.std.specs.Prelude.{ℕ, zero, suc, ◌+◌, ◌-◌, ◌≤◌, ◌≡◌, ◌≢◌, cond, List}
use Rattle.state.specs.declared.BatchCoalescer.{BatchCoalescer}
use Rattle.state.specs.World.{World, column_of}
use Rattle.state.specs.Layout.{is_views}
use Rattle.rules.specs.Batch.{Batch, batch}
use Rattle.rules.specs.Steps.{Res, bind, for_each, with_column}
use Rattle.rules.specs.Views.{column_copied}
use Rattle.rules.specs.Push.{finished, queued_whole, part_taken, if_full, stepped}
use Rattle.rules.specs.Turns.{coalesced}
use Rattle.rules.specs.Stays.{SameSetUp}
use Rattle.rules.specs.declared.Step.{Step}
use Rattle.routes.specs.declared.Sources.{Sources}
use Rattle.routes.specs.Sourced.{Sourced}
use Rattle.trial_truth.specs.Like.{number_of, Like, Reached, Follows}
use Rattle.std.specs.Prelude.{None}

-- the world v of a push, where the trial of the batch b begins a slot with the state s
pub record BeginsSlot (s : BatchCoalescer) (books : List ℕ) (x : Sources) (b : Batch) (w₀ v : World) : Type 0 where
  pub same : SameSetUp w₀.state s
  pub sourced : Sourced x w₀ b
  pub state : v.state ≡ s
  pub like : Like s books b 0 v

-- ---- a part

-- of the first c columns: none is refused
pub record TellsTo (s : BatchCoalescer) (books : List ℕ) (x : Sources) (records body : List ℕ) (from n c : ℕ) (t : BatchCoalescer) (books' : List ℕ) : Type 0 where
  pub tells : (rows : ℕ) → from + n ≤ rows → (w₀ v : World) → BeginsSlot s books x (batch rows records body) w₀ v → Reached (for_each c (λ u d. column_copied w₀ u (batch rows records body) d from n) v) t books' (batch rows records body) c

-- of every column, and the rows buffered
pub record TellsPart (s : BatchCoalescer) (books : List ℕ) (x : Sources) (records body : List ℕ) (from n : ℕ) (q : Step) (books' : List ℕ) : Type 0 where
  pub tells : (rows : ℕ) → from + n ≤ rows → (w₀ v : World) → BeginsSlot s books x (batch rows records body) w₀ v → Follows (part_taken w₀ v (batch rows records body) from n) (batch rows records body) s.columns q books'

-- ---- finishing

-- the state with the block of column c closed, where it is one of views; so of the first n columns
unfoldable pub closed_at : BatchCoalescer → ℕ → BatchCoalescer
closed_at s c = cond (is_views s c) (with_column s c (column_of s c).source None) s

unfoldable pub closed_to : BatchCoalescer → ℕ → BatchCoalescer
closed_to s zero = s
closed_to s (suc c) = closed_at (closed_to s c) c

-- where rows are buffered, however many columns have had their part; nothing else is finished
pub record TellsFinished (s : BatchCoalescer) (q : Step) : Type 0 where
  pub tells : s.buffered.0 ≢ 0 → s.buffered.0 ≤ 65536 → (books : List ℕ) (b : Batch) (m : ℕ) (v : World) → v.state ≡ s → Like s books b m v → Follows (finished v) b 0 q books
  pub idle : s.buffered.0 ≡ 0 → (q.number ≡ 0) × (q.state ≡ s)

-- a part, and then finishing where the slot is full: the number; and what follows, where the part fills the slot
pub record TellsThen (s : BatchCoalescer) (books : List ℕ) (x : Sources) (records body : List ℕ) (from n : ℕ) (q : Step) (books' : List ℕ) : Type 0 where
  pub number : (rows : ℕ) → from + n ≤ rows → (w₀ v : World) → BeginsSlot s books x (batch rows records body) w₀ v → number_of (bind (part_taken w₀ v (batch rows records body) from n) if_full) ≡ q.number
  pub full : s.buffered.0 + n ≡ s.target.0 → (rows : ℕ) → from + n ≤ rows → (w₀ v : World) → BeginsSlot s books x (batch rows records body) w₀ v → Follows (bind (part_taken w₀ v (batch rows records body) from n) if_full) (batch rows records body) 0 q books'

-- ---- steps 3 and 4

-- cutting the rest from here gives what the whole gives
pub record CutsTo (y : Res) (w₀ : World) (b : Batch) (x : Sources) (from : ℕ) (t : BatchCoalescer) (books : List ℕ) : Type 0 where
  pub turns : ℕ
  pub enough : b.rows - from ≤ turns
  pub world : World
  pub cut : y ≡ coalesced turns w₀ world b from
  pub stands : BeginsSlot t books x b w₀ world

-- the rows before `from` are taken, and none of their parts is refused
pub record TellsCut (s : BatchCoalescer) (books : List ℕ) (x : Sources) (b : Batch) (from : ℕ) (t : BatchCoalescer) (books' : List ℕ) : Type 0 where
  pub tells : (w₀ v : World) → BeginsSlot s books x b w₀ v → CutsTo (coalesced b.rows w₀ v b 0) w₀ b x from t books'

-- the number of the whole loop
pub record TellsRows (s : BatchCoalescer) (books : List ℕ) (x : Sources) (b : Batch) (number : ℕ) : Type 0 where
  pub tells : (w₀ v : World) → BeginsSlot s books x b w₀ v → number_of (coalesced b.rows w₀ v b 0) ≡ number

-- ---- queueing whole, and the whole push

-- the number of queueing whole; and of finishing before it
pub record TellsWhole (s : BatchCoalescer) (books records : List ℕ) (number : ℕ) : Type 0 where
  pub tells : (rows : ℕ) (body : List ℕ) (v : World) → v.state ≡ s → Like s books (batch rows records body) 0 v → number_of (queued_whole v (batch rows records body)) ≡ number

pub record TellsFirst (s : BatchCoalescer) (books records : List ℕ) (number : ℕ) : Type 0 where
  pub tells : s.buffered.0 ≤ 65536 → (rows : ℕ) (body : List ℕ) (v : World) → v.state ≡ s → Like s books (batch rows records body) 0 v → number_of (bind (finished v) (λ u. queued_whole u (batch rows records body))) ≡ number

-- the number that the steps of a push refuse with, and 0 where they do not
pub record Tells (s : BatchCoalescer) (books : List ℕ) (x : Sources) (b : Batch) (number : ℕ) : Type 0 where
  pub tells : (v : World) → BeginsSlot s books x b v v → number_of (stepped v b) ≡ number
