-- A state that passed the tests of a call, over the memories that a function was lent; and what that says of them.
use Rattle.std.specs.Prelude.{ℕ, ◌+◌, ◌*◌, ◌≤◌, ◌<◌, ◌^◌, ◌≡◌, refl, true, List, [], length}
use Rattle.std.proofs.Common.{sym, ◌∙◌, arith}
use Rattle.state.specs.declared.BatchCoalescer.{BatchCoalescer}
use Rattle.state.specs.World.{world}
use Rattle.state.specs.Layout.{is_views, list_place, slots_length, books_length, rows_in, list_length}
use Rattle.layout.specs.Few.{Few}
use Rattle.rules.specs.Ranges.{tested}
use Rattle.ranges.specs.SaysLaws.{says_few, says_slots, says-pool, says_books, says-place, says_queued, says_slot, says_listed_room}

-- state, slots and books passed the tests, beside some pool
pub record PassedTests (s : BatchCoalescer) (slots books : List ℕ) : Type 0 where
  pub pool : List ℕ
  pub zero : tested (world s slots pool books) ≡ 0

pub passed : {s : BatchCoalescer} {slots books : List ℕ} (pool : List ℕ) {r : ℕ} → r ≡ tested (world s slots pool books) → r ≡ 0 → PassedTests s slots books
passed pool e z = record { pool = pool; zero = sym e ∙ z }

module _ (s : BatchCoalescer) (slots books : List ℕ) (p : PassedTests s slots books) where
  pub passed_few : Few s
  passed_few = says_few s slots p.pool books (sym p.zero) refl

  pub passed_slots : length slots ≡ slots_length s
  passed_slots = says_slots s slots p.pool books (sym p.zero) refl

  pub passed_books : length books ≡ books_length s
  passed_books = says_books s slots p.pool books (sym p.zero) refl

  -- the books after a change that leaves their length
  pub passed_books_still : {m : ℕ} → m ≡ length books → m ≡ books_length s
  passed_books_still e = e ∙ passed_books

  pub passed_place : s.place ≤ s.queue
  passed_place = says-place s slots p.pool books (sym p.zero) refl

  pub passed_queued : s.queued ≤ s.queue
  passed_queued = says_queued s slots p.pool books (sym p.zero) refl

  pub passed_slot : {slot : ℕ} → slot ≤ s.queue → slot ≤ 1024
  passed_slot h = let f = passed_few in omega (arith, f.queue)

  pub passed_column : {c : ℕ} → c < s.columns → c < 16
  passed_column h = let f = passed_few in omega (arith, f.columns)

  -- the rows of a slot
  pub passed_rows : (slot : ℕ) {n : ℕ} → n ≡ rows_in (world s [] [] books) slot → slot ≤ s.queue → n ≤ s.rows.0
  passed_rows slot e h = says_slot s slots p.pool books (sym p.zero) refl slot e h

  -- row i of them
  pub passed_row : (slot : ℕ) {n i : ℕ} → n ≡ rows_in (world s [] [] books) slot → slot ≤ s.queue → i < n → i < s.rows.0
  passed_row slot e h m = omega (arith, passed_rows slot e h)

  pub passed_index : {i : ℕ} → i < s.rows.0 → i ≤ 65536
  passed_index h = let f = passed_few in omega (arith, f.rows)

  -- entry j of a list lies in the slots
  pub passed_listed : (slot c : ℕ) {n : ℕ} (j : ℕ) {at : ℕ} → n ≡ list_length (world s [] [] books) slot c → slot ≤ s.queue → c < s.columns → is_views s c ≡ true → at ≡ list_place s slot c → j < n → at + 4 * j + 4 ≤ length slots
  passed_listed slot c j e h l v q m = says_listed_room s slots p.pool books (sym p.zero) refl slot c e h l j v q m

-- what registering asks
module _ (s : BatchCoalescer) (slots pool books : List ℕ) {r : ℕ} (e : r ≡ tested (world s slots pool books)) (z : r ≡ 0) where
  pub says-numbers : s.numbers ≤ 65536
  says-numbers = (says_few s slots pool books e z).numbers

  pub says_pool_word : s.pool.0 < 2 ^ 32 → length pool < 2 ^ 32
  says_pool_word h = omega (arith, says-pool s slots pool books e z)
