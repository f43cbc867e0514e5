-- The ways out of the functions that close and open a block.
use Rattle.std.specs.Prelude.{ℕ, ◌+◌, ◌*◌, ◌≤◌, ◌<◌, ◌≡◌, refl, ◌≢◌, List, [], length}
use Rattle.std.proofs.Common.{sym, ◌∙◌, arith}
use Rattle.std.proofs.Math.Path.{ap}
use borrow.Author.Tests.{le-leb, lt-leb}
use Rattle.words.specs.Word.{with_word32}
use Rattle.tallies.specs.Tally.{with_tally}
use Rattle.counts.specs.declared.BufferNumber.{BufferNumber}
use Rattle.counts.specs.declared.ByteSum.{ByteSum}
use Rattle.blocks.specs.declared.NextSize.{NextSize}
use Rattle.blocks.specs.Block.{asked}
use Rattle.sound.specs.Change.{with_length}
use Rattle.room.specs.declared.Room.{Room}
use Rattle.room.specs.Room.{opened}
use Rattle.room.proofs.BackLaws.{opened-answer}
use Rattle.state.specs.declared.BatchCoalescer.{BatchCoalescer}
use Rattle.state.specs.declared.Column.{Column}
use Rattle.state.specs.World.{world, column_of}
use Rattle.state.specs.Layout.{list_place, list_length, tally}
use Rattle.rules.specs.Steps.{ok, refuse, with_column, counting, listing}
use Rattle.rules.specs.Views.{block_number, open_number, closed, opening, block_opened}
use Rattle.rules.specs.Held.{among_not}
use Rattle.rules.proofs.PartLaws.{block_among}
use Rattle.rules.specs.declared.Step.{Step}
use Rattle.rules.specs.Leaves.{steps-done, steps-refused}
use Rattle.columns.specs.SourceLaws.{list_same}
use Rattle.open_blocks.specs.Open.{ClosesBlock, OpensNext, OpensBlock}
use Rattle.std.specs.Prelude.{Option, Some, None, Result, Ok, Err}

-- put_length
pub length-put : (books : List ℕ) (i n : ℕ) {t : List ℕ} → t ≡ with_word32 books (12 + 20 * i) n → t ≡ with_length books i n
unfolding with_length
length-put books i n e = let q : 12 + 20 * i ≡ 4 + 20 * i + 8 = omega arith in e ∙ ap (λ (k : ℕ). with_word32 books k n) q

-- ---- finish_current

module _ (s : BatchCoalescer) (slots books : List ℕ) (c : ℕ) {x : Column} (e : x ≡ column_of s c) where
  block_is : {o : Option BufferNumber} → x.block ≡ o → (column_of s c).block ≡ o
  block_is q = sym (ap (λ (z : Column). z.block) e) ∙ q

  -- there is none
  nothing : x.block ≡ None → (pool : List ℕ) → closed (world s slots pool books) c ≡ world s slots pool books
  unfolding closed
  nothing q pool = rw (block_is q)

  pub shut_none : x.block ≡ None → ClosesBlock s slots books c s slots books
  shut_none q = record { is = nothing q }

  -- it joins its list
  module _ {k : BufferNumber} (q : x.block ≡ Some k) {slots' books' : List ℕ} {t : BatchCoalescer}
      (p : slots' ≡ with_word32 slots (list_place s s.place c + 4 * list_length (world s [] [] books) s.place c) k.0)
      (o : books' ≡ with_tally books (tally s s.place (c + 1)) (list_length (world s [] [] books) s.place c + 1))
      (r : t ≡ with_column s c x.source None) where
    number_is : (pool : List ℕ) → open_number (world s slots pool books) c ≡ k.0
    unfolding open_number
    number_is pool = ap block_number (block_is q)

    joined : (pool : List ℕ) → closed (world s slots pool books) c ≡ world (with_column s c (column_of s c).source None) (with_word32 slots (list_place s s.place c + 4 * list_length (world s slots pool books) s.place c) (open_number (world s slots pool books) c)) pool (with_tally books (tally s s.place (c + 1)) (list_length (world s slots pool books) s.place c + 1))
    unfolding closed listing counting
    joined pool = rw (block_is q)

    pub shut_one : ClosesBlock s slots books c t slots' books'
    shut_one =
        record {
          is = λ pool. joined pool
              ∙ (rw (← list_same s slots pool books c s.place, number_is pool, p, o, r, e));
        }

-- ---- open_next

module _ (s : BatchCoalescer) (books : List ℕ) (c : ℕ) (min : ByteSum) {x : Column} {next : NextSize} {a : Result Room ℕ} {books' : List ℕ} (xe : x ≡ column_of s c) (ne : next ≡ asked x.source min)
    (o : Rattle.room.specs.Room.Opens (opened books s.numbers s.pool.0 next.size.0) books' a) where
  next_is : next ≡ asked (column_of s c).source min
  next_is = ne ∙ ap (λ (z : Column). asked z.source min) xe

  outcome : opened books s.numbers s.pool.0 (asked (column_of s c).source min).size.0 ≡ record { answer = a; books = books' }
  outcome = rw (← next_is, o.answer_is, o.books_are)

  -- 11 and 12: nothing has changed
  pub next-refused : {number : ℕ} → a ≡ Err number → OpensNext s books c min (record { state = s; number = number }) books'
  next-refused {number} w =
      record { steps = λ slots pool. steps-refused some (ap (opening (world s slots pool books) c min.0) outcome ∙ go slots pool) }
    where
      some : number ≢ 0
      some = among_not 0 refl (block_among books s.numbers s.pool.0 next.size.0 number (sym (opened-answer _ _ _ _) ∙ sym o.answer_is ∙ w))

      go : (slots pool : List ℕ) → opening (world s slots pool books) c min.0 (record { answer = a; books = books' }) ≡ refuse number
      go slots pool = rw w

  -- a block
  pub next-done : {room : Room} {t : BatchCoalescer} → a ≡ Ok room → t ≡ with_column s c next.source (Some room.number) → OpensNext s books c min (record { state = t; number = 0 }) books'
  next-done {room} {t} w y =
      record { steps = λ slots pool. steps-done (ap (opening (world s slots pool books) c min.0) outcome ∙ go slots pool) }
    where
      go : (slots pool : List ℕ) → opening (world s slots pool books) c min.0 (record { answer = a; books = books' }) ≡ ok (world t slots pool books')
      go slots pool = rw (w, y, next_is)

-- ---- next_buffer

module _ (s : BatchCoalescer) (books : List ℕ) (c : ℕ) (min : ByteSum) {n : ℕ} (e : n ≡ list_length (world s [] [] books) s.place c) where
  list_is : (slots pool : List ℕ) → list_length (world s slots pool books) s.place c ≡ n
  list_is slots pool = sym (list_same s slots pool books c s.place) ∙ sym e

  full : s.lists ≤ n → (slots pool : List ℕ) → block_opened (world s slots pool books) c min.0 ≡ refuse 10
  unfolding block_opened
  full h slots pool = rw (list_is slots pool, lt-leb (n + 1) s.lists (omega arith))

  some : n < s.lists → (slots pool : List ℕ) → length pool ≡ s.pool.0 → block_opened (world s slots pool books) c min.0 ≡ opening (world s slots pool books) c min.0 (opened books s.numbers s.pool.0 (asked (column_of s c).source min).size.0)
  unfolding block_opened
  some h slots pool p = rw (list_is slots pool, le-leb (n + 1) s.lists (omega arith), p)

  -- 10
  pub open_full : s.lists ≤ n → OpensBlock s books c min.0 (record { state = s; number = 10 }) books
  open_full h = record { steps = λ slots pool p. steps-refused (λ a. omega arith) (full h slots pool) }

  -- what was chosen
  pub open_chosen : {q : Step} {books' : List ℕ} → n < s.lists → OpensNext s books c min q books' → OpensBlock s books c min.0 q books'
  open_chosen h a = record { steps = λ slots pool p. rw (some h slots pool p) (a.steps slots pool) }
