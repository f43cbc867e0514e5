-- One law for each exit of the tests and of the two calls.
use Rattle.std.specs.Prelude.{ℕ, ◌≤◌, ◌<◌, ◌≡◌, Bool, List, length, leb}
use Rattle.std.proofs.Math.Path.{refl, sym}
use Rattle.std.proofs.Common.{◌∙◌, true≢false, arith}
use Rattle.std.proofs.Math.Bool.{true, false, cond}
use Rattle.std.proofs.Math.Dec.{eqb}
use borrow.Author.Tests.{eqb-true, leb-true, eq-eqb, ne_eqb, le-leb, lt-leb}
use Rattle.counts.specs.declared.RowCount.{RowCount}
use Rattle.state.specs.declared.BatchCoalescer.{BatchCoalescer}
use Rattle.state.specs.World.{world}
use Rattle.rules.specs.Ranges.{tested}
use Rattle.rules.specs.Calls.{drop_call}
use Rattle.ranges.specs.Passed.{PassedTests}
use Rattle.completed.specs.declared.Dropped.{Dropped}
use Rattle.completed.specs.Drop.{Drops}
use Rattle.outs.specs.Coding.{strip_bytes, is_strip, strip_fault}
use Rattle.match_rows.specs.MatchRow.{is_match}
use Rattle.player_strip.specs.declared.Read.{Read}
use Rattle.player_strip.specs.StripCall.{front_batch, read_refusal, read_call, take_leaves}
use Rattle.player_strip.specs.Promises.{front_count, ReadsFront, Reads, Takes}
use Rattle.player_strip.specs.FrontLaws.{count-length}

-- ---- the strip's own fault

-- 1 is about the length, any other number not
fault_one : (b : List ℕ) → strip_fault b ≡ 1 → eqb (length b) strip_bytes ≡ false
unfolding strip_fault
fault_one b = go (eqb (length b) strip_bytes) (is_strip b)
  where
    go : (a c : Bool) → ◌≡◌ {A = ℕ} (cond a (cond c 0 14) 1) 1 → a ≡ false
    go true true q = absurd (omega arith)
    go true false q = absurd (omega arith)
    go false c q = refl

fault_other : (b : List ℕ) → (strip_fault b ≡ 1 → ⊥) → eqb (length b) strip_bytes ≡ true
unfolding strip_fault
fault_other b = go (eqb (length b) strip_bytes) (is_strip b)
  where
    go : (a c : Bool) → (◌≡◌ {A = ℕ} (cond a (cond c 0 14) 1) 1 → ⊥) → a ≡ true
    go true c q = refl
    go false c q = absurd (q refl)

-- with the right length: 14, or none
fault-code : (b : List ℕ) → eqb (length b) strip_bytes ≡ true → (c : Bool) → is_strip b ≡ c → strip_fault b ≡ cond c 0 14
unfolding strip_fault
fault-code b l c e = rw (l, e)

-- ---- read_refusal: n is what the tests answered, f the strip's fault, k the rows of the front batch

module _ (s : BatchCoalescer) (slots pool books strip : List ℕ) (room : ℕ) {n : ℕ} (t : n ≡ tested (world s slots pool books)) where
  pub refused_tests : (n ≡ 0 → ⊥) → n ≡ read_refusal (world s slots pool books) strip room
  unfolding read_refusal
  refused_tests h = rw (← t, ne_eqb n 0 h)

  module _ (z : n ≡ 0) {f : ℕ} (q : f ≡ strip_fault strip) where
    tests : eqb (tested (world s slots pool books)) 0 ≡ true
    tests = eq-eqb (tested (world s slots pool books)) 0 (sym t ∙ z)

    pub refused-length : f ≡ 1 → 1 ≡ read_refusal (world s slots pool books) strip room
    unfolding read_refusal
    refused-length e = rw (tests, fault_one strip (sym q ∙ e))

    module _ (d : f ≡ 1 → ⊥) {k : ℕ} (r : k ≡ front_count s books) where
      long : eqb (length strip) strip_bytes ≡ true
      long = fault_other strip (λ e. d (q ∙ e))

      many : k ≡ length (front_batch (world s slots pool books))
      many = r ∙ count-length s slots pool books

      pub refused_room : room < k → 1 ≡ read_refusal (world s slots pool books) strip room
      unfolding read_refusal
      refused_room h = rw (tests, long, ← many, lt-leb k room h)

      module _ (l : k ≤ room) where
        fits : leb (length (front_batch (world s slots pool books))) room ≡ true
        fits = rw (← many) (le-leb k room l)

        pub refused-code : (f ≡ 0 → ⊥) → f ≡ read_refusal (world s slots pool books) strip room
        unfolding read_refusal
        refused-code h = rw (tests, long, fits) (go (is_strip strip) refl)
          where
            go : (c : Bool) → is_strip strip ≡ c → f ≡ cond c (cond (is_match s) 0 30) 14
            go true e = absurd (h (q ∙ fault-code strip long true e))
            go false e = q ∙ fault-code strip long false e

        module _ (c : f ≡ 0) {m : Bool} (e : m ≡ is_match s) where
          coded : is_strip strip ≡ true
          coded = go (is_strip strip) refl
            where
              go : (a : Bool) → is_strip strip ≡ a → is_strip strip ≡ true
              go true p = p
              go false p = let x : ◌≡◌ {A = ℕ} 0 14 = sym c ∙ q ∙ fault-code strip long false p in absurd (omega arith)

          pub may_read : m ≡ true → 0 ≡ read_refusal (world s slots pool books) strip room
          unfolding read_refusal
          may_read p = rw (tests, long, fits, coded, ← e, p)

          pub refused_columns : m ≡ false → 30 ≡ read_refusal (world s slots pool books) strip room
          unfolding read_refusal
          refused_columns p = rw (tests, long, fits, coded, ← e, p)

-- ---- a read that is not refused

all_five : (n : ℕ) (a b c d e : Bool) → eqb n 0 ≡ a → cond a (cond b (cond c (cond d (cond e 0 30) 14) 1) 1) n ≡ 0 → (a ≡ true) × (b ≡ true) × (c ≡ true) × (d ≡ true) × (e ≡ true)
all_five n true true true true true p q = (refl, refl, refl, refl, refl)
all_five n true true true true false p q = absurd (omega arith)
all_five n true true true false e p q = absurd (omega arith)
all_five n true true false d e p q = absurd (omega arith)
all_five n true false c d e p q = absurd (omega arith)
all_five n false b c d e p q = let x : true ≡ false = sym (eq-eqb n 0 q) ∙ p in absurd (true≢false x)

module _ (s : BatchCoalescer) (slots pool books strip : List ℕ) (room : ℕ) {n : ℕ} (t : n ≡ read_refusal (world s slots pool books) strip room) (z : n ≡ 0) where
  all : (eqb (tested (world s slots pool books)) 0 ≡ true) × (eqb (length strip) strip_bytes ≡ true) × (leb (length (front_batch (world s slots pool books))) room ≡ true) × (is_strip strip ≡ true) × (is_match s ≡ true)
  unfolding read_refusal
  all =
      all_five (tested (world s slots pool books)) (eqb (tested (world s slots pool books)) 0) (eqb (length strip) strip_bytes) (leb (length (front_batch (world s slots pool books))) room) (is_strip strip) (is_match s) refl (sym t ∙ z)

  pub read_passed : PassedTests s slots books
  read_passed = record { pool = pool; zero = eqb-true (tested (world s slots pool books)) 0 all.0 }

  pub read_match : is_match s ≡ true
  read_match = all.4

  pub read-coded : is_strip strip ≡ true
  read-coded = all.3

  pub read_room : front_count s books ≤ room
  read_room = rw (count-length s slots pool books) (leb-true (length (front_batch (world s slots pool books))) room all.2)

-- ---- read_batch

module _ (s : BatchCoalescer) (slots pool books strip numbers : List ℕ) {n : ℕ} (t : n ≡ read_refusal (world s slots pool books) strip (length numbers)) where
  pub read-refused : (n ≡ 0 → ⊥) → Reads (read_call (world s slots pool books) strip numbers) strip numbers (record { number = n; rows = record { 0 = 0 } })
  unfolding read_call
  read-refused h = rw (← t, ne_eqb n 0 h) (record { number_is = refl; rows_are = refl; strip_is = refl; numbers_are = refl })

  pub read_done : {strip' numbers' : List ℕ} {rows : RowCount} → n ≡ 0 → ReadsFront (world s slots pool books) strip strip' numbers numbers' rows.0 → Reads (read_call (world s slots pool books) strip numbers) strip' numbers' (record { number = 0; rows = rows })
  unfolding read_call
  read_done z f =
      rw (sym t ∙ z)
      (record { number_is = refl; rows_are = f.rows_are; strip_is = f.strip_is; numbers_are = f.numbers_are })

-- ---- take_batch

module _ (s : BatchCoalescer) (slots pool books strip numbers : List ℕ) {strip' numbers' : List ℕ} {r : Read} (f : Reads (read_call (world s slots pool books) strip numbers) strip' numbers' r) where
  pub take-refused : (r.number ≡ 0 → ⊥) → Takes (world s slots pool books) strip numbers books strip' numbers' (record { state = s; number = r.number; rows = r.rows })
  unfolding take_leaves
  take-refused h =
      let e : eqb (read_call (world s slots pool books) strip numbers).number 0 ≡ false = ne_eqb (read_call (world s slots pool books) strip numbers).number 0 (λ z. h (f.number_is ∙ z)) in
      record {
        number_is = f.number_is;
        rows_are = f.rows_are;
        strip_is = f.strip_is;
        numbers_are = f.numbers_are;
        state_is = rw e;
        books_are = rw e;
      }

  pub take_done : {books' : List ℕ} {d : Dropped} → r.number ≡ 0 → Drops (drop_call (world s slots pool books)) books' d → Takes (world s slots pool books) strip numbers books' strip' numbers' (record { state = d.state; number = 0; rows = r.rows })
  unfolding take_leaves
  take_done z g =
      let e : eqb (read_call (world s slots pool books) strip numbers).number 0 ≡ true = eq-eqb (read_call (world s slots pool books) strip numbers).number 0 (sym f.number_is ∙ z) in
      record {
        number_is = sym z ∙ f.number_is;
        rows_are = f.rows_are;
        strip_is = f.strip_is;
        numbers_are = f.numbers_are;
        state_is = rw e g.state_is;
        books_are = rw e g.books_are;
      }
