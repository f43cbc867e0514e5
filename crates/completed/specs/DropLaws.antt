-- Dropping: what each step leaves for the next, a law for each turn of its loops, and one for each exit.
use Prim.Native.Nat.{ℕ, zero, suc, ◌+◌, ◌*◌, ◌-◌, ◌≤◌, ◌<◌}
use Rattle.std.specs.Prelude.{◌≡◌, Bool, true, false, length, take, drop}
use Rattle.std.proofs.Math.Path.{refl, ap}
use Rattle.std.proofs.Common.{sym, ◌∙◌, arith, add-one}
use mathlib.Core.List.{List, []}
use Rattle.words.specs.Word.{word32}
use Rattle.words.specs.RunLaws.{part_read, length-read}
use Rattle.words.specs.WordLaws.{Bytes}
use Rattle.words.specs.Frame.{Framed}
use Rattle.words.specs.FrameLaws.{framed_refl, framed_trans, word_read}
use Rattle.books.specs.Entry.{used_of}
use Rattle.listings.specs.Listing.{unlisted_one, over_list, Listed}
use Rattle.listings.specs.ListingLaws.{unlisted_used}
use Rattle.sound.specs.Change.{Roomy}
use Rattle.sound.specs.OpLaws.{changed_roomy, unlisted_changed, used_lt}
use Rattle.tallies.specs.Tally.{with_tally}
use Rattle.tallies.specs.TallyLaws.{framed_tally}
use Rattle.state.specs.declared.BatchCoalescer.{BatchCoalescer}
use Rattle.state.specs.World.{World, world}
use Rattle.state.specs.Layout.{is_views, tally, list_place, rows_in, list_length, queued_slot}
use Rattle.state.proofs.LayoutLaws.{column_in_lem, bitmap_follows, list_follows}
use Rattle.layout.specs.PlaceLaws.{list-below}
use Rattle.ranges.specs.RangeLaws.{entries_room}
use Rattle.ranges.specs.SaysLaws.{says_used, says_no_list, says_few_listed, says-number}
use Rattle.rules.specs.Ranges.{tested}
use Rattle.rules.specs.Steps.{each, counting, with_counts}
use Rattle.rules.specs.Calls.{list_dropped, uncounted, dropped, drop_call}
use Rattle.rules.proofs.CallLaws.{drop-tested, drop-empty, drop-front}
use Rattle.completed.specs.declared.Dropped.{Dropped}
use Rattle.ranges.specs.Passed.{PassedTests, passed_few, passed_slots, passed_books}
use Rattle.completed.specs.Drop.{list_off, lists_off, counts_off, Droppable, DropsFront, Drops}

-- ---- unlisting leaves what stands behind the entries, and no more numbers in use

record Off (s t : List ℕ) (n : ℕ) : Type 0 where
  framed : Framed 0 (4 + 20 * n) s t
  roomy : Roomy t n
  used : used_of t ≤ used_of s

all_off : {s : List ℕ} {n : ℕ} (l : List ℕ) (count : ℕ) → Roomy s n → ((k : ℕ) → k < count → word32 l (4 * k) < n) → Off s (over_list unlisted_one s l count) n
unfolding over_list
all_off {s} {n} l zero r below = record { framed = framed_refl 0 (4 + 20 * n) s; roomy = r; used = omega arith }
all_off {s} {n} l (suc count) r below =
    let a = all_off l count r (λ k h. below k (omega arith)) in
    let c = unlisted_changed (word32 l (4 * count)) a.roomy (below count (omega arith)) in
    record {
      framed = framed_trans a.framed c.framed;
      roomy = changed_roomy a.roomy c;
      used = omega (arith, a.used, unlisted_used (over_list unlisted_one s l count) (word32 l (4 * count)) (omega (arith, a.roomy.room)) (used_lt a.roomy));
    }

-- ---- a state that passed its tests can be dropped from

module _ (s : BatchCoalescer) (slots books : List ℕ) (slot : ℕ) where
  pub droppable : PassedTests s slots books → slot ≤ s.queue → Bytes books → Droppable s slots books slot
  droppable p h b =
      record {
        few = passed_few s slots books p;
        slots_are = passed_slots s slots books p;
        books_are = passed_books s slots books p;
        in_slots_lem = h;
        bytes = b;
        used = says_used s slots p.pool books (sym p.zero) refl;
        lists = λ c l. room c l (is_views s c) refl;
        numbers = λ c i l m. says-number s slots p.pool books (sym p.zero) refl slot c refl h l i refl refl m;
      }
    where
      room : (c : ℕ) → c < s.columns → (v : Bool) → is_views s c ≡ v → list_place s slot c + 4 * list_length (world s [] [] books) slot c ≤ length slots
      room c l true e =
          list-below s h l (passed_slots s slots books p) e (says_few_listed s slots p.pool books (sym p.zero) refl slot c refl h l)
      room c l false e =
          omega (
            arith,
            says_no_list s slots p.pool books (sym p.zero) refl slot c refl h l e,
            passed_slots s slots books p,
            list_follows s slot c,
            bitmap_follows s slot c,
            column_in_lem s slot c h l,
          )

  -- what drop_list asks of its calls
  -- an empty list takes nothing away
  pub off_none : (c : ℕ) {n : ℕ} → n ≡ list_length (world s [] [] books) slot c → n ≡ 0 → books ≡ list_off s slots books slot c
  unfolding list_off over_list
  off_none c p e = rw (← p, e)

  module _ (d : Droppable s slots books slot) where
    pub off_slot : slot ≤ 1024
    off_slot = let f = d.few in let q = d.in_slots_lem in omega (arith, f.queue)

    pub off_roomy : Roomy books s.numbers
    off_roomy = record { bytes = d.bytes; room = entries_room s d.books_are; few = d.few.numbers }

    module _ (c : ℕ) (l : c < s.columns) where
      pub off_column : c < 16
      off_column = let f = d.few in omega (arith, f.columns)

      module _ {n from : ℕ} (p : n ≡ list_length (world s [] [] books) slot c) (q : from ≡ list_place s slot c) where
        pub off_part : from + 4 * n ≤ length slots
        off_part = rw (p, q) (d.lists c l)

        pub off_listed : Listed books s.numbers (take (from + 4 * n - from) (drop from slots)) n
        off_listed =
            rw (part_read from (4 * n) slots)
            (record {
              room = entries_room s d.books_are;
              used = d.used;
              list_room = omega (arith, length-read from (4 * n) slots off_part);
              below = λ i h. rw (word_read from (4 * n) slots (4 * i) (omega arith), q) (d.numbers c i l (rw p at h));
            })

        pub off_is : {books' : List ℕ} → books' ≡ over_list unlisted_one books (take (from + 4 * n - from) (drop from slots)) n → books' ≡ list_off s slots books slot c
        unfolding list_off
        off_is e = rw (part_read from (4 * n) slots, p, q) at e

      -- the next list can be dropped after it
      off : Off books (list_off s slots books slot c) s.numbers
      unfolding list_off
      off =
          all_off _ _ off_roomy
          (λ i h. rw (word_read (list_place s slot c) (4 * list_length (world s [] [] books) slot c) slots (4 * i) (omega arith)) (d.numbers c i l h))

      same_lists : (i : ℕ) → list_length (world s [] [] (list_off s slots books slot c)) slot i ≡ list_length (world s [] [] books) slot i
      unfolding list_length
      same_lists i = framed_tally (tally s slot (i + 1)) off.framed

      off_droppable : Droppable s slots (list_off s slots books slot c) slot
      off_droppable =
          record {
            few = d.few;
            slots_are = d.slots_are;
            books_are = off.framed.len ∙ d.books_are;
            in_slots_lem = d.in_slots_lem;
            bytes = off.roomy.bytes;
            used = let u = d.used in omega (arith, off.used);
            lists = λ i h. rw (same_lists i) (d.lists i h);
            numbers = λ i j h m. d.numbers i j h (rw (same_lists i) at m);
          }

      pub droppable_next : {books' : List ℕ} → books' ≡ list_off s slots books slot c → Droppable s slots books' slot
      droppable_next e = rw e off_droppable

-- ---- the loops

module _ (s : BatchCoalescer) (slots books : List ℕ) (slot : ℕ) where
  pub lists_none : books ≡ lists_off s slots books slot 0
  unfolding lists_off
  lists_none = refl

  pub lists_more : (c : ℕ) {t t' : List ℕ} → t ≡ lists_off s slots books slot c → t' ≡ list_off s slots t slot c → t' ≡ lists_off s slots books slot (c + 1)
  unfolding lists_off
  lists_more c p q = rw (add-one, ← p) q

  pub lists_all : (c : ℕ) {t : List ℕ} → t ≡ lists_off s slots books slot c → c ≤ s.columns → s.columns ≤ c → t ≡ lists_off s slots books slot s.columns
  lists_all c p a b = let e : c ≡ s.columns = omega arith in p ∙ ap (lists_off s slots books slot) e

module _ (s : BatchCoalescer) (books : List ℕ) (slot : ℕ) where
  pub counts_none : books ≡ counts_off s books slot 0
  unfolding counts_off
  counts_none = refl

  pub counts_more : (k : ℕ) {t t' : List ℕ} → t ≡ counts_off s books slot k → t' ≡ with_tally t (tally s slot k) 0 → t' ≡ counts_off s books slot (k + 1)
  unfolding counts_off
  counts_more k p q = rw (add-one, ← p) q

  pub counts_all : (k : ℕ) {t : List ℕ} → t ≡ counts_off s books slot k → k ≤ 1 + s.columns → s.columns < k → t ≡ counts_off s books slot (1 + s.columns)
  counts_all k p a b = let e : k ≡ 1 + s.columns = omega arith in p ∙ ap (counts_off s books slot) e

-- ---- the definitions on worlds are these on books

module _ (s : BatchCoalescer) (slots pool books : List ℕ) (slot : ℕ) where
  one_list : (books : List ℕ) (c : ℕ) → list_dropped (world s slots pool books) slot c ≡ world s slots pool (list_off s slots books slot c)
  unfolding list_dropped list_off list_length
  one_list books c = refl

  each-list : (n : ℕ) → each n (λ v c. list_dropped v slot c) (world s slots pool books) ≡ world s slots pool (lists_off s slots books slot n)
  unfolding each lists_off
  each-list zero = refl
  each-list (suc n) = ap (λ (v : World). list_dropped v slot n) (each-list n) ∙ one_list (lists_off s slots books slot n) n

  one_count : (books : List ℕ) (k : ℕ) → counting (world s slots pool books) slot k 0 ≡ world s slots pool (with_tally books (tally s slot k) 0)
  unfolding counting
  one_count books k = refl

  each-count : (n : ℕ) → each n (λ v k. counting v slot k 0) (world s slots pool books) ≡ world s slots pool (counts_off s books slot n)
  unfolding each counts_off
  each-count zero = refl
  each-count (suc n) = ap (λ (v : World). counting v slot n 0) (each-count n) ∙ one_count (counts_off s books slot n) n

  all_counts : uncounted (world s slots pool books) slot ≡ world s slots pool (counts_off s books slot (1 + s.columns))
  unfolding uncounted
  all_counts = each-count (1 + s.columns)

-- ---- the exits of next_completed_batch: n is what the tests answered

module _ (s : BatchCoalescer) (slots pool books : List ℕ) {n : ℕ} (e : n ≡ tested (world s slots pool books)) where
  pub drop-refused : (n ≡ 0 → ⊥) → Drops (drop_call (world s slots pool books)) books (record { state = s; number = n; rows = record { 0 = 0 } })
  drop-refused h =
      rw (drop-tested (world s slots pool books) (λ z. h (e ∙ z)))
      (record { state_is = refl; number_is = e; rows_are = refl; books_are = refl })

  pub drop-nothing : n ≡ 0 → s.queued ≤ 0 → Drops (drop_call (world s slots pool books)) books (record { state = s; number = 0; rows = record { 0 = 0 } })
  drop-nothing z q =
      rw (drop-empty (world s slots pool books) (sym e ∙ z) (omega arith))
      (record { state_is = refl; number_is = refl; rows_are = refl; books_are = refl })

  front-rows : rows_in (world s [] [] books) (queued_slot s 0) ≡ rows_in (world s slots pool books) (queued_slot s 0)
  unfolding rows_in
  front-rows = refl

  front_books : (dropped (world s slots pool books)).books ≡ counts_off s (lists_off s slots books (queued_slot s 0) s.columns) (queued_slot s 0) (1 + s.columns)
  unfolding dropped
  front_books =
      ap (λ (v : World). (uncounted v (queued_slot s 0)).books) (each-list s slots pool books (queued_slot s 0) s.columns)
      ∙ ap (λ (v : World). v.books) (all_counts s slots pool (lists_off s slots books (queued_slot s 0) s.columns) (queued_slot s 0))

  front_state : (dropped (world s slots pool books)).state ≡ with_counts s s.place (s.queued - 1) s.buffered.0
  unfolding dropped
  front_state = refl

  pub drop-done : {books' : List ℕ} {r : Dropped} → n ≡ 0 → 0 < s.queued → DropsFront s slots books books' r → Drops (drop_call (world s slots pool books)) books' r
  drop-done z q d =
      rw (drop-front (world s slots pool books) (sym e ∙ z) (λ y. omega arith))
      (record {
        state_is = d.state_is ∙ sym front_state;
        number_is = d.number_is;
        rows_are = d.rows_are ∙ front-rows;
        books_are = d.books_are ∙ sym front_books;
      })

-- the exit of drop_front
pub front_off : (s : BatchCoalescer) (slots books : List ℕ) {slot n : ℕ} {t t' : List ℕ} → slot ≡ queued_slot s 0 → n ≡ rows_in (world s [] [] books) slot → t ≡ lists_off s slots books slot s.columns → t' ≡ counts_off s t slot (1 + s.columns) → DropsFront s slots books t' (record { state = record { target = s.target; rows = s.rows; queue = s.queue; columns = s.columns; lists = s.lists; numbers = s.numbers; pool = s.pool; limit = s.limit; place = s.place; queued = s.queued - 1; buffered = s.buffered; column = s.column }; number = 0; rows = record { 0 = n } })
front_off s slots books p q u v =
    record { state_is = refl; number_is = refl; rows_are = rw (← p) q; books_are = rw (← p, ← u) v }
