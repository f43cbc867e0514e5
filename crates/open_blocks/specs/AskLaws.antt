-- What the code asks of state and books, from what it was given.
use Rattle.std.specs.Prelude.{ℕ, zero, suc, ◌+◌, ◌*◌, ◌≤◌, ◌<◌, ◌^◌, ◌≡◌, refl, true, List, [], ◌∷◌, length}
use Rattle.std.proofs.Common.{sym, ◌∙◌, ap, arith}
use Rattle.words.specs.FrameLaws.{framed_refl}
use Rattle.books.specs.Entry.{used_of}
use Rattle.counts.specs.declared.BufferNumber.{BufferNumber}
use Rattle.state.specs.declared.BatchCoalescer.{BatchCoalescer}
use Rattle.state.specs.declared.Column.{Column}
use Rattle.state.specs.World.{World, world, column_of}
use Rattle.state.specs.Layout.{is_views, slots_length, books_length, list_length}
use Rattle.layout.specs.Few.{Few}
use Rattle.push_safety.specs.Run.{Run}
use Rattle.push_safety.specs.BooksGo.{go_refl}
use Rattle.push_safety.specs.Firm.{run_firm, within_goes}
use Rattle.push_safety.specs.CallerLaws.{entries_room}
use Rattle.columns.specs.Pushing.{Running}
use Rattle.columns.specs.SourceLaws.{run_few, list_same}
use Rattle.open_blocks.specs.Open.{Booked, FillingViews}
use Rattle.std.specs.Prelude.{Some}

-- ---- state and books in order

pub running_booked : {s : BatchCoalescer} {books : List ℕ} → Running s books → Booked s books
running_booked r = record { run = r.run }

pub ready_at : {s : BatchCoalescer} {slots books : List ℕ} {c : ℕ} → Booked s books → length slots ≡ slots_length s → c < s.columns → is_views s c ≡ true → FillingViews s slots books c
ready_at b l h y = record { booked = b; slots_are = l; column = h; views = y }

-- ---- any slots and pool

-- so many zeros
unfoldable pub zeros : ℕ → List ℕ
zeros zero = []
zeros (suc n) = 0 ∷ zeros n

pub length-zeros : (n : ℕ) → length (zeros n) ≡ n
unfolding zeros
length-zeros zero = refl
length-zeros (suc n) = ap suc (length-zeros n)

-- slots and pool of the same lengths
pub run_any : {s : BatchCoalescer} {slots pool books : List ℕ} (slots' pool' : List ℕ) → Run (world s slots pool books) → length slots' ≡ length slots → length pool' ≡ length pool → Run (world s slots' pool' books)
run_any {s} {slots} {pool} {books} slots' pool' r p q =
    (within_goes (world s slots pool books) (world s slots' pool' books) refl p q (go_refl (run_firm r).books) (framed_refl 0 (4 + 20 * s.numbers) books) r).run

pub run-booked : {s : BatchCoalescer} {slots pool books : List ℕ} → Run (world s slots pool books) → Booked s books
run-booked r =
    record { run = λ x y p q. run_any x y r (p ∙ sym r.fit.slots_are) (q ∙ sym r.fit.pool_is) }

pub some-run : {s : BatchCoalescer} {books : List ℕ} → Booked s books → Run (world s (zeros (slots_length s)) (zeros s.pool.0) books)
some-run {s} b = b.run (zeros (slots_length s)) (zeros s.pool.0) (length-zeros (slots_length s)) (length-zeros s.pool.0)

-- ---- what Booked says

module _ {s : BatchCoalescer} {books : List ℕ} (b : Booked s books) where
  abbrev w : World
  w = world s (zeros (slots_length s)) (zeros s.pool.0) books

  pub booked_few : Few s
  booked_few = run_few (some-run b)

  pub booked-column : {c : ℕ} → c < s.columns → c < 16
  booked-column h = omega (arith, booked_few.columns)

  pub booked-place : s.place ≤ s.queue
  booked-place = (some-run b).fit.place

  pub booked_slot : s.place ≤ 1024
  booked_slot = omega (arith, booked-place, booked_few.queue)

  pub booked_books : length books ≡ books_length s
  booked_books = (some-run b).fit.books_are

  pub booked_used : used_of books ≤ s.numbers
  booked_used = (some-run b).used

  pub booked_entries : 4 + 20 * s.numbers ≤ length books
  booked_entries = entries_room (some-run b)

  pub booked-numbers : s.numbers ≤ 65536
  booked-numbers = booked_few.numbers

  module _ {c : ℕ} (h : c < s.columns) where
    pub booked-list : list_length (world s [] [] books) s.place c ≤ s.lists
    booked-list =
        omega (arith, list_same s w.slots w.pool books c s.place, (some-run b).lists s.place c booked-place h)

    module _ (y : is_views s c ≡ true) {x : Column} (e : x ≡ column_of s c) where
      pub booked-kept : 1 ≤ x.source.current.0
      booked-kept = rw e ((some-run b).kept c h y)

      -- an open block has a place in its list
      pub booked_room : {k : BufferNumber} → x.block ≡ Some k → list_length (world s [] [] books) s.place c < s.lists
      booked_room {k} o =
          let q : (column_of s c).block ≡ Some k = rw e at o in
          omega (arith, list_same s w.slots w.pool books c s.place, (some-run b).room c k h y q)

-- a list's number counts within a word
pub list_small : (s : BatchCoalescer) {n : ℕ} → Few s → n < s.lists → n + 1 < 2 ^ 32
list_small s f h = omega (arith, f.lists)
