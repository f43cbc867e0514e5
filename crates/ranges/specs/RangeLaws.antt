-- The ways out of the test of 14, the turns of its loops, and the places that it reads.
use Rattle.std.specs.Prelude.{ℕ, ◌+◌, ◌*◌, ◌≤◌, ◌<◌, ◌≡◌, Bool, ◌&&◌, cond, length, get_or, ltb, leb}
use Rattle.std.proofs.Math.Path.{refl}
use Rattle.std.proofs.Common.{sym, ◌∙◌, ap}
use Rattle.std.proofs.Math.Bool.{true, false, not}
use mathlib.Core.List.{List, []}
use native.Mathlib.Omega.{arith}
use borrow.Author.Tests.{lt-ltb, le-ltb, le-leb, lt-leb, eq-eqb, ne_eqb, leb-true}
use Rattle.std.proofs.Math.Bool.{and_assoc, and-eq-true_iff}
use Rattle.search.specs.Every.{every, All, all_more, all_fails, all_done}
use Rattle.search.specs.Cases.{both_fails, both_rest}
use Rattle.words.specs.Word.{word32}
use Rattle.books.specs.declared.Entry.{Entry}
use Rattle.books.specs.Entry.{used_of, entry_of, is_free, is_free_at}
use Rattle.kinds.specs.Kind.{is_view}
use Rattle.pool.specs.Read.{in_range}
use Rattle.counts.specs.declared.BufferNumber.{BufferNumber}
use Rattle.state.specs.declared.BatchCoalescer.{BatchCoalescer}
use Rattle.state.specs.declared.Column.{Column}
use Rattle.state.specs.World.{world, no_column, column_of}
use Rattle.state.specs.Layout.{is_views, list_place, slots_length, books_length, rows_in, list_length}
use Rattle.layout.specs.PlaceLaws.{list_room}
use Rattle.rules.specs.Ranges.{between, is_block, has_open, block_in_range, column_in_range, list_in_range, slot_in_range, state_in_range, tested}
use Rattle.ranges.specs.Tested.{fits_lengths, opens_in, not_open, below}
use Rattle.std.specs.Prelude.{Option, Some, None}

-- the entries lie in the books, and the word before them
module _ (s : BatchCoalescer) {L : ℕ} (e : L ≡ books_length s) where
  pub entries_room : 4 + 20 * s.numbers ≤ L
  unfolding books_length
  entries_room = omega arith

  pub used_room : 0 + 4 ≤ L
  used_room = omega (arith, entries_room)

  pub number_room : {k : ℕ} → k < s.numbers → 24 + 20 * k ≤ L
  number_room h = omega (arith, entries_room)

-- in_use
module _ (books : List ℕ) {k u : ℕ} (p : u ≡ word32 books 0) where
  pub use_not : u ≤ k → false ≡ not (is_free_at books k)
  unfolding is_free_at used_of
  use_not h = rw (← p, le-ltb k u h)

  pub use_is : {e : Entry} {r : Bool} → k < u → e ≡ entry_of books k → r ≡ is_free e → not r ≡ not (is_free_at books k)
  unfolding is_free_at used_of
  use_is h q t = rw (← p, lt-ltb k u h, ← q, ← t)

-- has_open
module _ (column : Column) (k : ℕ) {b : Option BufferNumber} (p : b ≡ column.block) where
  none : (v : Bool) → false ≡ (v && false)
  none false = refl
  none true = refl

  all : (v : Bool) → v ≡ (v && true)
  all false = refl
  all true = refl

  pub opens-closed : b ≡ None → false ≡ opens_in column k
  unfolding opens_in
  opens-closed e = rw (← p, e) (none (is_view column.kind))

  module _ {j : BufferNumber} (e : b ≡ Some j) where
    pub opens_other : (j.0 ≡ k → ⊥) → false ≡ opens_in column k
    unfolding opens_in
    opens_other n = rw (← p, e, ne_eqb j.0 k n) (none (is_view column.kind))

    pub opens_here : {r : Bool} → j.0 ≡ k → r ≡ is_view column.kind → r ≡ opens_in column k
    unfolding opens_in
    opens_here y q = rw (← p, e, eq-eqb j.0 k y, q) (all (is_view column.kind))

-- none_before
module _ (s : BatchCoalescer) (k : ℕ) where
  opens_is : (d : ℕ) {r : Bool} → r ≡ opens_in (get_or s.column d no_column) k → r ≡ has_open s k d
  unfolding opens_in has_open is_views column_of
  opens_is d q = q

  pub before_more : (d : ℕ) {r : Bool} → All (not_open s k) d → r ≡ opens_in (get_or s.column d no_column) k → r ≡ false → All (not_open s k) (d + 1)
  unfolding not_open
  before_more d a q x = all_more a (ap not (sym (opens_is d q) ∙ x))

  pub before_fails : (c d : ℕ) {r : Bool} → d < c → r ≡ opens_in (get_or s.column d no_column) k → r ≡ true → false ≡ every (not_open s k) c
  unfolding not_open
  before_fails c d h q x = all_fails (not_open s k) c d h (ap not (sym (opens_is d q) ∙ x))

-- block_in_range
module _ (s : BatchCoalescer) (books : List ℕ) (list c : ℕ) {b : Option BufferNumber} where
  pub block_closed : b ≡ None → true ≡ block_in_range s books list c b
  block_closed e = rw e

  -- u is the first two tests, v the first three
  module _ {k : BufferNumber} (e : b ≡ Some k) {u v : Bool} (p : u ≡ (ltb k.0 s.numbers && not (is_free_at books k.0))) (q : v ≡ (u && ltb list s.lists)) where
    block_whole : (v && every (not_open s k.0) c) ≡ block_in_range s books list c b
    unfolding not_open
    block_whole = rw (e, q, p) (simp and_assoc)

    pub block_fails : v ≡ false → v ≡ block_in_range s books list c b
    block_fails x = x ∙ both_fails _ x ∙ block_whole

    pub block_rest : {r : Bool} → v ≡ true → r ≡ every (not_open s k.0) c → r ≡ block_in_range s books list c b
    block_rest x t = t ∙ both_rest _ x ∙ block_whole

  -- whatever the tests behind the first say
  pub block_is : {k : BufferNumber} {a r : Bool} → b ≡ Some k → k.0 < s.numbers → a ≡ not (is_free_at books k.0) → r ≡ every (not_open s k.0) c → (a && (ltb list s.lists && r)) ≡ block_in_range s books list c b
  unfolding not_open
  block_is {k} e h p t = rw (e, lt-ltb k.0 s.numbers h, p, t)

-- column_in_range
module _ (s : BatchCoalescer) (books : List ℕ) (c : ℕ) {k : Column} {v : Bool} (q : k ≡ column_of s c) (p : v ≡ is_view k.kind) where
  pub column_other : v ≡ false → true ≡ column_in_range (world s [] [] books) c
  unfolding column_in_range is_views
  column_other x = rw (← q, ← p, x)

  module _ (x : v ≡ true) {a : Bool} (r : a ≡ between 4096 k.source.current.0 1048576) where
    pub column-size : a ≡ false → false ≡ column_in_range (world s [] [] books) c
    unfolding column_in_range is_views
    column-size y = rw (← q, ← p, x, ← r, y)

    pub column-last : {l : ℕ} {o : Option BufferNumber} {b : Bool} → a ≡ true → l ≡ list_length (world s [] [] books) s.place c → o ≡ k.block → b ≡ block_in_range s books l c o → b ≡ column_in_range (world s [] [] books) c
    unfolding column_in_range is_views
    column-last y i h j = rw (← q, ← p, x, ← r, y, ← h, ← i) j

-- words_below
unfoldable pub lower : List ℕ → ℕ → ℕ → ℕ → Bool
lower l at n i = ltb (word32 l (at + 4 * i)) n

module _ (l : List ℕ) (at n : ℕ) where
  pub lower-more : (i : ℕ) {w : ℕ} → All (lower l at n) i → w ≡ word32 l (at + 4 * i) → w < n → All (lower l at n) (i + 1)
  unfolding lower
  lower-more i {w} a p h = all_more a (rw (← p) (lt-ltb w n h))

  pub lower_fails : (i count : ℕ) {w : ℕ} → i < count → w ≡ word32 l (at + 4 * i) → n ≤ w → false ≡ below l at count n
  unfolding below lower
  lower_fails i count {w} h p k = all_fails (lower l at n) count i h (rw (← p) (le-ltb w n k))

  pub lower-done : (i count : ℕ) → All (lower l at n) i → count ≤ i → true ≡ below l at count n
  unfolding below lower
  lower-done i count a h = all_done count a h

-- list_in_range
-- no number is listed
pub list-empty : (s : BatchCoalescer) (slots books : List ℕ) (slot c : ℕ) {n : ℕ} → n ≡ list_length (world s [] [] books) slot c → n ≡ 0 → true ≡ list_in_range (world s slots [] books) slot c
unfolding list_in_range list_length every
list-empty s slots books slot c p e = rw (← p, e, le-leb 0 (cond (is_views s c) s.lists 0) (omega arith))

module _ (s : BatchCoalescer) (slots books : List ℕ) (slot c : ℕ) {v : Bool} {n : ℕ} (p : n ≡ list_length (world s [] [] books) slot c) (q : v ≡ is_views s c) where
  -- u is the first two tests
  module _ {u : Bool} (h : u ≡ (v && leb n s.lists)) where
    -- the tests are the bound, where some are listed
    list_bound : (n ≡ 0 → ⊥) → u ≡ leb n (cond v s.lists 0)
    list_bound z = go v refl
      where
        go : (y : Bool) → v ≡ y → u ≡ leb n (cond v s.lists 0)
        go true e = rw e (rw e at h)
        go false e = rw e ((rw e at h) ∙ sym (lt-leb n 0 (omega arith)))

    list_whole : (leb n (cond v s.lists 0) && below slots (list_place s slot c) n s.numbers) ≡ list_in_range (world s slots [] books) slot c
    unfolding list_in_range list_length below
    list_whole = rw (← q, ← p)

    pub list_fails : (n ≡ 0 → ⊥) → u ≡ false → u ≡ list_in_range (world s slots [] books) slot c
    list_fails z x = x ∙ both_fails _ (sym (list_bound z) ∙ x) ∙ list_whole

    pub list_rest : {at : ℕ} {b : Bool} → (n ≡ 0 → ⊥) → u ≡ true → at ≡ list_place s slot c → b ≡ below slots at n s.numbers → b ≡ list_in_range (world s slots [] books) slot c
    list_rest z x i j = j ∙ ap (λ a. below slots a n s.numbers) i ∙ both_rest _ (sym (list_bound z) ∙ x) ∙ list_whole

  -- whatever is listed, and where nothing is
  pub list-last : {at : ℕ} {b : Bool} → v ≡ true → n ≤ s.lists → at ≡ list_place s slot c → b ≡ below slots at n s.numbers → b ≡ list_in_range (world s slots [] books) slot c
  unfolding list_in_range list_length below
  list-last x h i j = rw (← q, x, ← p, le-leb n s.lists h, ← i) j

pub listed_room : (s : BatchCoalescer) (slot c n : ℕ) {u v : Bool} {at L : ℕ} → u ≡ (v && leb n s.lists) → u ≡ true → at ≡ list_place s slot c → v ≡ is_views s c → slot ≤ s.queue → c < s.columns → L ≡ slots_length s → at + 4 * n ≤ L
listed_room s slot c n {u} {v} x y e p h k m =
    let b = (and-eq-true_iff v (leb n s.lists)).0 (sym x ∙ y) in
    list_room s slot c n e (sym p ∙ b.0) h k (leb-true n s.lists b.1) m

-- slot_in_range
module _ (s : BatchCoalescer) (slots books : List ℕ) (slot : ℕ) where
  module _ {n : ℕ} (p : n ≡ rows_in (world s [] [] books) slot) where
    pub slot_long : s.rows.0 < n → false ≡ slot_in_range (world s slots [] books) slot
    unfolding slot_in_range rows_in
    slot_long h = rw (← p, lt-leb n s.rows.0 h)

    module _ (h : n ≤ s.rows.0) (c : ℕ) where
      pub slot_fails : {r : Bool} → c < s.columns → r ≡ list_in_range (world s slots [] books) slot c → r ≡ false → false ≡ slot_in_range (world s slots [] books) slot
      unfolding slot_in_range rows_in
      slot_fails l q x = rw (← p, le-leb n s.rows.0 h) (all_fails (list_in_range (world s slots [] books) slot) s.columns c l (sym q ∙ x))

      pub slot_done : All (list_in_range (world s slots [] books) slot) c → s.columns ≤ c → true ≡ slot_in_range (world s slots [] books) slot
      unfolding slot_in_range rows_in
      slot_done a l = rw (← p, le-leb n s.rows.0 h) (all_done s.columns a l)

-- state_in_range: its tests together, and a place past the last slot
module _ (s : BatchCoalescer) (slots books : List ℕ) where
  pub state_is : {a b r : Bool} → s.place ≤ s.queue → a ≡ in_range books s.numbers s.pool.0 → b ≡ every (column_in_range (world s [] [] books)) s.columns → r ≡ every (slot_in_range (world s slots [] books)) (s.queue + 1) → ((((ltb s.buffered.0 s.target.0 && leb s.queued s.queue) && a) && b) && r) ≡ state_in_range (world s slots [] books)
  unfolding state_in_range column_in_range list_length
  state_is h p q t = rw (le-leb s.place s.queue h, p, q, t) (simp and_assoc)

  pub state_place : s.queue < s.place → false ≡ state_in_range (world s slots [] books)
  unfolding state_in_range
  state_place h =
      rw (lt-leb s.place s.queue h)
      (none (ltb s.buffered.0 s.target.0) (leb s.queued s.queue))
    where
      none : (a b : Bool) → false ≡ (a && (b && false))
      none false b = refl
      none true false = refl
      none true true = refl

-- tested
module _ (s : BatchCoalescer) (slots pool books : List ℕ) {a : Bool} (p : a ≡ fits_lengths s (length slots) (length pool) (length books)) where
  pub tested_1 : a ≡ false → 1 ≡ tested (world s slots pool books)
  unfolding tested fits_lengths Rattle.rules.specs.Ranges.fits_set_up
  tested_1 x = rw (← p, x)

  module _ (x : a ≡ true) {b : Bool} (q : b ≡ state_in_range (world s slots [] books)) where
    same_state : b ≡ state_in_range (world s slots pool books)
    unfolding state_in_range column_in_range slot_in_range list_in_range list_length rows_in
    same_state = q

    pub tested_14 : b ≡ false → 14 ≡ tested (world s slots pool books)
    unfolding tested fits_lengths Rattle.rules.specs.Ranges.fits_set_up
    tested_14 y = rw (← p, x, ← same_state, y)

    pub tested_0 : b ≡ true → 0 ≡ tested (world s slots pool books)
    unfolding tested fits_lengths Rattle.rules.specs.Ranges.fits_set_up
    tested_0 y = rw (← p, x, ← same_state, y)
