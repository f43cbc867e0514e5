-- What a state and books in order give the code, and how steps of a trial follow one another.
use Rattle.std.specs.Prelude.{ℕ, ◌+◌, ◌*◌, ◌≤◌, ◌<◌, ◌≡◌, refl, true, List, [], length, replicate}
use Rattle.std.proofs.Common.{sym, ◌∙◌, ap, arith}
use Rattle.std.proofs.lemmas.List.{length-replicate}
use Rattle.counts.specs.declared.BufferNumber.{BufferNumber}
use Rattle.books.specs.Entry.{used_of}
use Rattle.sound.specs.Change.{Roomy}
use Rattle.room.proofs.BackLaws.{tried-none, tried_trans}
use Rattle.state.specs.declared.BatchCoalescer.{BatchCoalescer}
use Rattle.state.specs.declared.Column.{Column}
use Rattle.state.specs.World.{world, column_of}
use Rattle.state.specs.Layout.{is_views, slots_length, books_length, list_length}
use Rattle.layout.specs.Few.{Few}
use Rattle.rules.specs.Stays.{same_refl, same_trans}
use Rattle.columns.specs.Column.{closed_length}
use Rattle.columns.specs.Pushing.{Running}
use Rattle.columns.specs.SourceLaws.{run_few, list-within}
use Rattle.search.specs.Cases.{by_cond}
use Rattle.rules.specs.Views.{is_open}
use Rattle.push_safety.specs.TestedLaws.{Bounds}
use Rattle.push_safety.specs.Firm.{run_firm}
use Rattle.push_safety.specs.CallerLaws.{run_bounds, entries_room, entry_room}
use Rattle.trial_column.specs.Trying.{Trying, Tries, TriesColumn}
use Rattle.std.specs.Prelude.{Some}

-- a state in order whatever slots and pool are beside it is in order beside some
pub running_trying : {s : BatchCoalescer} {books : List ℕ} → Running s books → Trying s books
running_trying {s} x =
    record {
      slots = replicate (slots_length s) 0;
      pool = replicate s.pool.0 0;
      run = x.run (replicate (slots_length s) 0) (replicate s.pool.0 0) (length-replicate (slots_length s) 0) (length-replicate s.pool.0 0);
    }

module _ {s : BatchCoalescer} {books : List ℕ} (x : Trying s books) where
  pub trying_bounds : Bounds s
  trying_bounds = run_bounds x.run

  pub trying_few : Few s
  trying_few = run_few x.run

  pub trying_roomy : Roomy books s.numbers
  trying_roomy = (run_firm x.run).books.roomy

  pub trying_place : s.place ≤ s.queue
  trying_place = x.run.fit.place

  pub trying_length : length books ≡ books_length s
  trying_length = x.run.fit.books_are

  -- what try_block and end_trial ask
  pub trying_room : (used_of books ≤ s.numbers) × (4 + 20 * s.numbers ≤ length books) × (s.numbers ≤ 65536)
  trying_room = (x.run.used, entries_room x.run, trying_bounds.numbers)

  module _ {c : ℕ} (h : c < s.columns) where
    pub trying_column : c < 16
    trying_column = omega (arith, trying_bounds.columns)

    -- what list_closed asks
    pub trying_list : (Few s) × (s.place ≤ s.queue) × (c < s.columns) × (length books ≡ books_length s) × (list_length (world s [] [] books) s.place c ≤ s.lists)
    trying_list = (trying_few, trying_place, h, trying_length, list-within s x.slots x.pool books c x.run h)

    -- a column of views: its kept size is not 0, and its open block has an entry
    pub trying_size : {k : Column} → is_views s c ≡ true → k ≡ column_of s c → 1 ≤ k.source.current.0
    trying_size y e = rw e (x.run.kept c h y)

    pub trying_block : {k : Column} {j : BufferNumber} → is_views s c ≡ true → k ≡ column_of s c → k.block ≡ Some j → 24 + 20 * j.0 ≤ length books
    trying_block {k} {j} y e o =
        entry_room x.run j.0 (x.run.block c j h y (ap (λ (z : Column). z.block) (sym e) ∙ o))

-- the list is no longer than it is with its block
pub closed_most : (s : BatchCoalescer) (books : List ℕ) (c : ℕ) {n : ℕ} → n ≡ closed_length (world s [] [] books) c → list_length (world s [] [] books) s.place c ≤ n
unfolding closed_length
closed_most s books c e =
    rw e
    (by_cond (λ (m : ℕ). list_length (world s [] [] books) s.place c ≤ m) (is_open (world s [] [] books) c) (λ o. omega arith) (λ o. omega arith))

-- ---- steps: none, and one after another

module _ {s : BatchCoalescer} {books : List ℕ} (x : Trying s books) where
  pub tries_none : Tries s books s books
  tries_none = record { set_up = same_refl s; marks = tried-none (trying_roomy x) x.run.used; trying = x }

  pub column-none : TriesColumn s books s books
  column-none = record { tries = tries_none; buffered = refl }

pub tries_trans : {s t u : BatchCoalescer} {a b d : List ℕ} → Tries s a t b → Tries t b u d → Tries s a u d
tries_trans {a = a} {b = b} {d = d} x y =
    record {
      set_up = same_trans x.set_up y.set_up;
      marks = tried_trans x.marks (rw x.set_up.numbers at y.marks);
      trying = y.trying;
    }

pub column_trans : {s t u : BatchCoalescer} {a b d : List ℕ} → TriesColumn s a t b → TriesColumn t b u d → TriesColumn s a u d
column_trans x y =
    record { tries = tries_trans x.tries y.tries; buffered = y.buffered ∙ x.buffered }

-- the books keep their length
pub tries_length : {s t : BatchCoalescer} {a b : List ℕ} → Tries s a t b → length b ≡ length a
tries_length x = x.marks.framed.len
