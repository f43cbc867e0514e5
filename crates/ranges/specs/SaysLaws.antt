-- What the tests of 1 and 14 say, over numbers and lists as a caller has them: r is what `tested` answered.
use Rattle.std.specs.Prelude.{ℕ, ◌+◌, ◌*◌, ◌≤◌, ◌<◌, ◌≡◌, Bool, true, false, cond, List, [], length, ltb, leb}
use Rattle.std.proofs.Common.{sym, ◌∙◌, arith, ltb-true, leb-true}
use Rattle.std.proofs.Math.Bool.{and-eq-true_iff}
use Rattle.search.specs.Every.{every, every-says}
use Rattle.words.specs.Word.{word32}
use Rattle.books.specs.declared.Entry.{Entry}
use Rattle.books.specs.Entry.{used_of, entry_of}
use Rattle.pool.specs.Read.{in_range}
use Rattle.pool.specs.ReadLaws.{Ranged, range_says}
use Rattle.state.specs.declared.BatchCoalescer.{BatchCoalescer}
use Rattle.state.specs.World.{World, world}
use Rattle.state.specs.Layout.{is_views, list_place, slots_length, books_length, rows_in, list_length}
use Rattle.layout.specs.Few.{Few}
use Rattle.layout.specs.PlaceLaws.{entry_room}
use Rattle.rules.specs.Ranges.{column_in_range, list_in_range, slot_in_range, fits_set_up, state_in_range, tested}
use Rattle.rules.specs.TestLaws.{TestedCase, not_set_up, out_of_range, passed, tested-case}
use Rattle.ranges.specs.Tested.{fits_lengths, Sized}
use Rattle.ranges.specs.BoundsLaws.{FitsSetUp, fits-says}
use Rattle.ranges.specs.RangeLaws.{entries_room}

-- the parts of 14
record Ranges (w : World) : Type 0 where
  buffered : w.state.buffered.0 < w.state.target.0
  queued : w.state.queued ≤ w.state.queue
  place : w.state.place ≤ w.state.queue
  books : in_range w.books w.state.numbers w.state.pool.0 ≡ true
  columns : every (column_in_range w) w.state.columns ≡ true
  slots : every (slot_in_range w) (w.state.queue + 1) ≡ true

ranges_say : (w : World) → state_in_range w ≡ true → Ranges w
unfolding state_in_range
ranges_say w t =
    let a = (and-eq-true_iff _ _).0 t in
    let b = (and-eq-true_iff _ _).0 a.1 in
    let c = (and-eq-true_iff _ _).0 b.1 in
    let d = (and-eq-true_iff _ _).0 c.1 in
    let f = (and-eq-true_iff _ _).0 d.1 in
    record {
      buffered = ltb-true _ _ a.0;
      queued = leb-true _ _ b.0;
      place = leb-true _ _ c.0;
      books = d.0;
      columns = f.0;
      slots = f.1;
    }

both_pass : (w : World) → tested w ≡ 0 → (fits_set_up w ≡ true) × (state_in_range w ≡ true)
both_pass w z = go (tested-case w)
  where
    go : TestedCase w → (fits_set_up w ≡ true) × (state_in_range w ≡ true)
    go (not_set_up p t) = absurd (omega arith)
    go (out_of_range p q t) = absurd (omega arith)
    go (passed p q t) = (p, q)

-- a list of a slot
record ListSays (s : BatchCoalescer) (slots books : List ℕ) (slot c : ℕ) : Type 0 where
  count : list_length (world s [] [] books) slot c ≤ cond (is_views s c) s.lists 0
  numbers : (i : ℕ) → i < list_length (world s [] [] books) slot c → word32 slots (list_place s slot c + 4 * i) < s.numbers

list-says : (s : BatchCoalescer) (slots pool books : List ℕ) (slot c : ℕ) → list_in_range (world s slots pool books) slot c ≡ true → ListSays s slots books slot c
unfolding list_in_range list_length
list-says s slots pool books slot c t =
    let n = list_length (world s [] [] books) slot c in
    let a = (and-eq-true_iff (leb n (cond (is_views s c) s.lists 0)) (every (λ i. ltb (word32 slots (list_place s slot c + 4 * i)) s.numbers) n)).0 t in
    record {
      count = leb-true _ _ a.0;
      numbers = λ i l. ltb-true _ _ (every-says (λ i. ltb (word32 slots (list_place s slot c + 4 * i)) s.numbers) n a.1 i l);
    }

slot_says : (s : BatchCoalescer) (slots pool books : List ℕ) (slot : ℕ) → slot_in_range (world s slots pool books) slot ≡ true → (rows_in (world s [] [] books) slot ≤ s.rows.0) × ((c : ℕ) → c < s.columns → ListSays s slots books slot c)
unfolding slot_in_range rows_in
slot_says s slots pool books slot t =
    let w = world s slots pool books in
    let a = (and-eq-true_iff (leb (rows_in w slot) s.rows.0) (every (list_in_range w slot) s.columns)).0 t in
    (leb-true _ _ a.0, λ c l. list-says s slots pool books slot c (every-says (list_in_range w slot) s.columns a.1 c l))

module _ (s : BatchCoalescer) (slots pool books : List ℕ) {r : ℕ} (e : r ≡ tested (world s slots pool books)) (z : r ≡ 0) where
  fits : FitsSetUp s (length slots) (length pool) (length books)
  unfolding fits_set_up fits_lengths
  fits = fits-says s (length slots) (length pool) (length books) (both_pass (world s slots pool books) (sym e ∙ z)).0

  ranged : Ranges (world s slots pool books)
  ranged = ranges_say (world s slots pool books) (both_pass (world s slots pool books) (sym e ∙ z)).1

  -- 1: the bounds of set-up
  pub says_few : Few s
  says_few = fits.bounded.few

  pub says_columns : s.columns ≤ 16
  says_columns = says_few.columns

  pub says-column : {c : ℕ} → c < s.columns → c < 16
  says-column h = omega (arith, says_columns)

  pub says_slot_number : {i : ℕ} → i ≤ s.queue → i ≤ 1024
  says_slot_number h = let f = says_few in omega (arith, f.queue)

  pub says-rows : s.rows.0 ≤ 65536
  says-rows = says_few.rows

  pub says_target : s.target.0 ≤ s.rows.0
  says_target = fits.bounded.target_in

  pub says_some : 1 ≤ s.target.0
  says_some = fits.bounded.some-rows

  -- the lengths of lent memory
  pub says_slots : length slots ≡ slots_length s
  says_slots = fits.slots_are

  pub says-pool : length pool ≡ s.pool.0
  says-pool = fits.pool_is

  pub says_books : length books ≡ books_length s
  says_books = fits.books_are

  pub says_sized : Sized s (length slots) (length books)
  says_sized = record { few = says_few; slots_are = says_slots; books_are = says_books }

  -- 14: the counts of the state
  pub says_buffered : s.buffered.0 < s.target.0
  says_buffered = ranged.buffered

  pub says_queued : s.queued ≤ s.queue
  says_queued = ranged.queued

  pub says-place : s.place ≤ s.queue
  says-place = ranged.place

  pub says_place_number : s.place ≤ 1024
  says_place_number = says_slot_number says-place

  -- the entries of the books
  pub says_range : in_range books s.numbers s.pool.0 ≡ true
  says_range = ranged.books

  pub says_used : used_of books ≤ s.numbers
  says_used = (range_says books s.numbers s.pool.0 says_range).0

  pub says_entries : 4 + 20 * s.numbers ≤ length books
  says_entries = entries_room s says_books

  pub says_in_use : 4 + 20 * used_of books ≤ length books
  says_in_use = omega (arith, says_used, says_entries)

  pub says_word : 4 ≤ length books
  says_word = omega (arith, says_entries)

  pub says_entry_room : (k : ℕ) {u : ℕ} → u ≡ word32 books 0 → k < u → 24 + 20 * k ≤ length books
  unfolding used_of
  says_entry_room k p h = omega (arith, says_in_use)

  -- each buffer in use, by its number
  buffer : (k : ℕ) → k < used_of books → Ranged books s.pool.0 k
  buffer k h = (range_says books s.numbers s.pool.0 says_range).1 k h

  pub says_inside : (k : ℕ) → k < used_of books → (entry_of books k).start + (entry_of books k).capacity.0 ≤ length pool
  says_inside k h = omega (arith, (buffer k h).inside, says-pool)

  pub says-filled : (k : ℕ) → k < used_of books → (entry_of books k).length.0 ≤ (entry_of books k).capacity.0
  says-filled k h = (buffer k h).filled

  pub says_buffer : (k : ℕ) → k < used_of books → (entry_of books k).start + (entry_of books k).length.0 ≤ length pool
  says_buffer k h = omega (arith, says_inside k h, says-filled k h)

  -- and as the code has it: u is the word that was read, b the entry
  pub says-entry : (k : ℕ) {u : ℕ} {b : Entry} → u ≡ word32 books 0 → k < u → b ≡ entry_of books k → b.start + b.length.0 ≤ length pool
  unfolding used_of
  says-entry k p h q = rw q (says_buffer k (omega arith))

  -- each slot: its rows, and the count of a list
  slot : (i : ℕ) → i ≤ s.queue → (rows_in (world s [] [] books) i ≤ s.rows.0) × ((c : ℕ) → c < s.columns → ListSays s slots books i c)
  slot i h = slot_says s slots pool books i (every-says (slot_in_range (world s slots pool books)) (s.queue + 1) ranged.slots i (omega arith))

  pub says_slot : (i : ℕ) {n : ℕ} → n ≡ rows_in (world s [] [] books) i → i ≤ s.queue → n ≤ s.rows.0
  says_slot i p h = rw p (slot i h).0

  module _ (i c : ℕ) {n : ℕ} (p : n ≡ list_length (world s [] [] books) i c) (h : i ≤ s.queue) (l : c < s.columns) where
    pub says-list : is_views s c ≡ true → n ≤ s.lists
    says-list v = rw p (rw v at ((slot i h).1 c l).count)

    pub says_no_list : is_views s c ≡ false → n ≡ 0
    says_no_list v = p ∙ none (rw v at ((slot i h).1 c l).count)
      where
        none : {k : ℕ} → k ≤ 0 → k ≡ 0
        none q = omega arith

    pub says_few_listed : n ≤ s.lists
    says_few_listed = rw p (small (is_views s c) ((slot i h).1 c l).count)
      where
        small : (v : Bool) {k : ℕ} → k ≤ cond v s.lists 0 → k ≤ s.lists
        small true q = q
        small false q = omega arith

    -- entry j of the list lies in the slots, and is a number below N
    pub says_listed_room : (j : ℕ) {at : ℕ} → is_views s c ≡ true → at ≡ list_place s i c → j < n → at + 4 * j + 4 ≤ length slots
    says_listed_room j v q m = entry_room s i c j q v h l (omega (arith, says_few_listed)) says_slots

    pub says-number : (j : ℕ) {at k : ℕ} → at ≡ list_place s i c → k ≡ word32 slots (at + 4 * j) → j < n → k < s.numbers
    says-number j q t m = rw (t, q) (((slot i h).1 c l).numbers j (omega arith))

-- the counts do not look at slots and pool
pub rows_any : (s : BatchCoalescer) (slots pool books : List ℕ) (i : ℕ) {n : ℕ} → n ≡ rows_in (world s [] [] books) i → n ≡ rows_in (world s slots pool books) i
unfolding rows_in
rows_any s slots pool books i p = p

pub length_any : (s : BatchCoalescer) (slots pool books : List ℕ) (i c : ℕ) {n : ℕ} → n ≡ list_length (world s [] [] books) i c → n ≡ list_length (world s slots pool books) i c
unfolding list_length
length_any s slots pool books i c p = p
