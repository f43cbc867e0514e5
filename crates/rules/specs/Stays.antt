-- What calls leave as it is: what set-up fixed, the lengths of the memories, and the ranges of the counts.
use Rattle.std.specs.Prelude.{ℕ, zero, suc, ◌≤◌, ◌<◌, ◌≡◌, refl, List, [], ◌∷◌, length, get_or, set}
use Rattle.std.proofs.Common.{◌∙◌, ap}
use Rattle.blocks.specs.declared.BufferSource.{BufferSource}
use Rattle.state.specs.declared.BatchCoalescer.{BatchCoalescer}
use Rattle.state.specs.declared.Column.{Column}
use Rattle.state.specs.World.{World, no_column, column_of}
use Rattle.rules.specs.Steps.{each, with_counts, with_column}
use Rattle.std.specs.Prelude.{Option}
use Rattle.counts.specs.declared.BufferNumber.{BufferNumber}

-- two states of one set-up. 01: "Set-up fixes, within bounds: target T ..; slot rows R ..; queue Q ..; columns .., each of a kind ..;
-- buffers in one column of one batch B ..; buffer numbers N ..; pool .."; and the limit, which only its setter changes
pub record SameSetUp (s t : BatchCoalescer) : Type 0 where
  pub target : t.target ≡ s.target
  pub rows : t.rows ≡ s.rows
  pub queue : t.queue ≡ s.queue
  pub columns : t.columns ≡ s.columns
  pub lists : t.lists ≡ s.lists
  pub numbers : t.numbers ≡ s.numbers
  pub pool : t.pool ≡ s.pool
  pub limit : t.limit ≡ s.limit
  pub kind : (c : ℕ) → (column_of t c).kind ≡ (column_of s c).kind

pub same_refl : (s : BatchCoalescer) → SameSetUp s s
same_refl s =
    record {
      target = refl;
      rows = refl;
      queue = refl;
      columns = refl;
      lists = refl;
      numbers = refl;
      pool = refl;
      limit = refl;
      kind = λ c. refl;
    }

pub same_trans : {s t u : BatchCoalescer} → SameSetUp s t → SameSetUp t u → SameSetUp s u
same_trans a b =
    record {
      target = b.target ∙ a.target;
      rows = b.rows ∙ a.rows;
      queue = b.queue ∙ a.queue;
      columns = b.columns ∙ a.columns;
      lists = b.lists ∙ a.lists;
      numbers = b.numbers ∙ a.numbers;
      pool = b.pool ∙ a.pool;
      limit = b.limit ∙ a.limit;
      kind = λ c. b.kind c ∙ a.kind c;
    }

-- other counts, and another column of the same kind
pub same_counts : (s : BatchCoalescer) (place queued buffered : ℕ) → SameSetUp s (with_counts s place queued buffered)
unfolding column_of
same_counts s place queued buffered =
    record {
      target = refl;
      rows = refl;
      queue = refl;
      columns = refl;
      lists = refl;
      numbers = refl;
      pool = refl;
      limit = refl;
      kind = λ c. refl;
    }

kind_set : (l : List Column) (c k : ℕ) (x : Column) → x.kind ≡ (get_or l c no_column).kind → (get_or (set l c x) k no_column).kind ≡ (get_or l k no_column).kind
kind_set [] c k x e = refl
kind_set (y ∷ l) zero zero x e = e
kind_set (y ∷ l) zero (suc k) x e = refl
kind_set (y ∷ l) (suc c) zero x e = refl
kind_set (y ∷ l) (suc c) (suc k) x e = kind_set l c k x e

pub same-column : (s : BatchCoalescer) (c : ℕ) (source : BufferSource) (block : Option BufferNumber) → SameSetUp s (with_column s c source block)
unfolding column_of
same-column s c source block =
    record {
      target = refl;
      rows = refl;
      queue = refl;
      columns = refl;
      lists = refl;
      numbers = refl;
      pool = refl;
      limit = refl;
      kind = λ k. kind_set s.column c k (record { kind = (get_or s.column c no_column).kind; source = source; block = block }) refl;
    }

-- ---- worlds

-- the ranges of 14 that are of the state alone. 14: "buffered not below T, queued over Q, .. a slot's place over Q (the first is 0)"
pub record Counted (s : BatchCoalescer) : Type 0 where
  pub buffered : s.buffered.0 < s.target.0
  pub queued : s.queued ≤ s.queue
  pub place : s.place ≤ s.queue

-- what a part of a push leaves as it was: the set-up, the counts, and the lengths of the memories
pub record Beside (w v : World) : Type 0 where
  pub set_up : SameSetUp w.state v.state
  pub place : v.state.place ≡ w.state.place
  pub queued : v.state.queued ≡ w.state.queued
  pub buffered : v.state.buffered ≡ w.state.buffered
  pub slots : length v.slots ≡ length w.slots
  pub pool : length v.pool ≡ length w.pool
  pub books : length v.books ≡ length w.books

pub beside_refl : (w : World) → Beside w w
beside_refl w = record { set_up = same_refl w.state; place = refl; queued = refl; buffered = refl; slots = refl; pool = refl; books = refl }

pub beside_trans : {w v u : World} → Beside w v → Beside v u → Beside w u
beside_trans a b =
    record {
      set_up = same_trans a.set_up b.set_up;
      place = b.place ∙ a.place;
      queued = b.queued ∙ a.queued;
      buffered = b.buffered ∙ a.buffered;
      slots = b.slots ∙ a.slots;
      pool = b.pool ∙ a.pool;
      books = b.books ∙ a.books;
    }

-- a change for each number below n
pub each_beside : (n : ℕ) (f : World → ℕ → World) (w : World) → ((v : World) (i : ℕ) → Beside v (f v i)) → Beside w (each n f w)
unfolding each
each_beside zero f w h = beside_refl w
each_beside (suc n) f w h = beside_trans (each_beside n f w h) (h (each n f w) n)

-- a world of the same state, with memories of the same lengths
pub beside_state : (w v : World) → v.state ≡ w.state → length v.slots ≡ length w.slots → length v.pool ≡ length w.pool → length v.books ≡ length w.books → Beside w v
beside_state w v e t p l =
    record {
      set_up = rw e (same_refl w.state);
      place = ap (λ s. s.place) e;
      queued = ap (λ s. s.queued) e;
      buffered = ap (λ s. s.buffered) e;
      slots = t;
      pool = p;
      books = l;
    }

-- what a step leaves that queues: queued and place stay within Q
pub record Kept (w v : World) : Type 0 where
  pub set_up : SameSetUp w.state v.state
  pub slots : length v.slots ≡ length w.slots
  pub pool : length v.pool ≡ length w.pool
  pub books : length v.books ≡ length w.books
  pub queued : w.state.queued ≤ w.state.queue → v.state.queued ≤ v.state.queue
  pub place : w.state.place ≤ w.state.queue → v.state.place ≤ v.state.queue

pub kept_trans : {w v u : World} → Kept w v → Kept v u → Kept w u
kept_trans a b =
    record {
      set_up = same_trans a.set_up b.set_up;
      slots = b.slots ∙ a.slots;
      pool = b.pool ∙ a.pool;
      books = b.books ∙ a.books;
      queued = λ h. b.queued (a.queued h);
      place = λ h. b.place (a.place h);
    }

pub beside_kept : {w v : World} → Beside w v → Kept w v
beside_kept a =
    record {
      set_up = a.set_up;
      slots = a.slots;
      pool = a.pool;
      books = a.books;
      queued = λ h. rw (a.queued, a.set_up.queue) h;
      place = λ h. rw (a.place, a.set_up.queue) h;
    }

-- what every call leaves: buffered stays below T besides
pub record Stays (w v : World) : Type 0 where
  pub kept : Kept w v
  pub below : w.state.buffered.0 < w.state.target.0 → v.state.buffered.0 < v.state.target.0

pub stays_trans : {w v u : World} → Stays w v → Stays v u → Stays w u
stays_trans a b = record { kept = kept_trans a.kept b.kept; below = λ h. b.below (a.below h) }

pub beside_stays : {w v : World} → Beside w v → Stays w v
beside_stays a = record { kept = beside_kept a; below = λ h. rw (a.buffered, a.set_up.target) h }

pub stays_refl : (w : World) → Stays w w
stays_refl w = beside_stays (beside_refl w)

pub stays_counted : {w v : World} → Stays w v → Counted w.state → Counted v.state
stays_counted a c =
    record { buffered = a.below c.buffered; queued = a.kept.queued c.queued; place = a.kept.place c.place }
