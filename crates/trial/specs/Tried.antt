-- What the steps of a trial leave, and what they read of the batch.
use Rattle.std.specs.Prelude.{ℕ, ◌+◌, ◌*◌, ◌≤◌, ◌<◌, ◌≡◌, true, List, length, get_or}
use Rattle.state.specs.declared.BatchCoalescer.{BatchCoalescer}
use Rattle.state.specs.World.{column_of}
use Rattle.state.specs.Layout.{is_views}
use Rattle.rules.specs.declared.Way.{Way}
use Rattle.rules.specs.Batch.{Batch, record_of}
use Rattle.rules.specs.Stays.{SameSetUp}
use Rattle.rules.specs.declared.Step.{Step}
use Rattle.routes.specs.declared.Sources.{Sources}
use Rattle.routes.specs.Sourced.{no_source}
use Rattle.trial_column.specs.Trying.{Trying, Tries}
use Rattle.std.specs.Prelude.{None}

-- a part of n rows: they are buffered where it is not refused
pub record TriesPart (s : BatchCoalescer) (books : List ℕ) (n : ℕ) (r : Step) (books' : List ℕ) : Type 0 where
  pub tries : Tries s books r.state books'
  pub buffered : r.number ≡ 0 → r.state.buffered.0 ≡ s.buffered.0 + n

-- and finishing where the slot is full then: nothing is buffered where the part fills it and is not refused
pub record TriesThen (s : BatchCoalescer) (books : List ℕ) (n : ℕ) (r : Step) (books' : List ℕ) : Type 0 where
  pub tries : Tries s books r.state books'
  pub empty : s.buffered.0 + n ≡ s.target.0 → r.number ≡ 0 → r.state.buffered.0 ≡ 0

-- finishing: the same, whatever books are beside the state
pub record TriesFinish (s : BatchCoalescer) (r : Step) : Type 0 where
  pub tries : (books : List ℕ) → Trying s books → Tries s books r.state books
  pub empty : r.number ≡ 0 → r.state.buffered.0 ≡ 0

-- t is s with the blocks of the first n columns closed
pub record ClosesFirst (s t : BatchCoalescer) (n : ℕ) : Type 0 where
  pub set_up : SameSetUp s t
  pub place : t.place ≡ s.place
  pub queued : t.queued ≡ s.queued
  pub buffered : t.buffered.0 ≡ s.buffered.0
  pub source : (c : ℕ) → (column_of t c).source ≡ (column_of s c).source
  pub shut : (c : ℕ) → c < n → is_views s c ≡ true → (column_of t c).block ≡ None

-- ---- the batch

-- its records, the views of a column of views, and that only such a column is compacted
pub record Triable (s : BatchCoalescer) (x : Sources) (b : Batch) : Type 0 where
  pub records_are : length b.records ≡ 32 * s.columns
  pub rows_fit : b.rows ≤ 65536
  pub values : (c : ℕ) → c < s.columns → is_views s c ≡ true → (record_of b c).values + b.rows * 16 ≤ length b.body
  pub viewed : (c : ℕ) → c < s.columns → (get_or x.column c no_source).way ≡ Way.Compacted → is_views s c ≡ true
