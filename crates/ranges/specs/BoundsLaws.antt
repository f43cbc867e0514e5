-- The ways out of the test of 1, and the bounds that it says.
use Rattle.std.specs.Prelude.{ℕ, ◌+◌, ◌≤◌, ◌<◌, ◌^◌, ◌≡◌, Bool, ◌&&◌, get_or, leb, eqb}
use Rattle.std.proofs.Math.Path.{refl, ap}
use Rattle.std.proofs.Common.{sym, ◌∙◌, arith}
use Rattle.std.proofs.Math.Bool.{true, false, and_assoc, and-true, and-eq-true_iff}
use borrow.Author.Tests.{leb-true, le-leb, lt-leb, eqb-true}
use Rattle.search.specs.Every.{every, All, all_more, all_fails, all_done}
use Rattle.kinds.specs.Kind.{width_at}
use Rattle.state.specs.declared.BatchCoalescer.{BatchCoalescer}
use Rattle.state.specs.World.{column_of, no_column}
use Rattle.state.specs.Layout.{slots_length, books_length}
use Rattle.layout.specs.Few.{Few}
use Rattle.rules.specs.Ranges.{is_kind, between, in_bounds}
use Rattle.ranges.specs.Tested.{kinds_known, fits_lengths, Sized}
use Rattle.std.specs.Prelude.{Option, Some, None}

-- between
pub between_low : (lo x hi : ℕ) → lo ≤ x → leb x hi ≡ between lo x hi
between_low lo x hi h = rw (le-leb lo x h)

pub between_not : (lo x hi : ℕ) → x < lo → false ≡ between lo x hi
between_not lo x hi h = rw (lt-leb lo x h)

pub between-says : (lo x hi : ℕ) → between lo x hi ≡ true → (lo ≤ x) × (x ≤ hi)
between-says lo x hi e =
    let a = (and-eq-true_iff (leb lo x) (leb x hi)).0 e in
    (leb-true lo x a.0, leb-true x hi a.1)

-- kinds_known: its turns and its ways out
unfoldable pub known : BatchCoalescer → ℕ → Bool
known s c = is_kind (width_at (column_of s c).kind)

module _ (s : BatchCoalescer) where
  known_is : (c : ℕ) {w : Option ℕ} → w ≡ width_at (get_or s.column c no_column).kind → known s c ≡ is_kind w
  unfolding known column_of
  known_is c q = ap is_kind (sym q)

  pub known_more : (c : ℕ) {n : ℕ} {w : Option ℕ} → All (known s) c → w ≡ width_at (get_or s.column c no_column).kind → w ≡ Some n → All (known s) (c + 1)
  known_more c a q r = all_more a (known_is c q ∙ ap is_kind r)

  pub known_fails : (c : ℕ) {w : Option ℕ} → c < s.columns → w ≡ width_at (get_or s.column c no_column).kind → w ≡ None → false ≡ kinds_known s
  unfolding kinds_known known
  known_fails c l q r = all_fails (known s) s.columns c l (known_is c q ∙ ap is_kind r)

  pub known-done : (c : ℕ) → All (known s) c → s.columns ≤ c → true ≡ kinds_known s
  unfolding kinds_known known
  known-done c a l = all_done s.columns a l

-- in_bounds_lem: its tests together, and columns over 16. Every word of the machine is a pool's length
module _ (s : BatchCoalescer) where
  pub bounds_are : {a b c k l n : Bool} → s.columns ≤ 16 → s.pool.0 < 2 ^ 32 → a ≡ between 1 s.target.0 65536 → b ≡ between s.target.0 s.rows.0 65536 → c ≡ between 1 s.queue 1024 → k ≡ kinds_known s → l ≡ between 1 s.lists 1024 → n ≡ between 1 s.numbers 65536 → (((((a && b) && c) && k) && l) && n) ≡ in_bounds s
  unfolding in_bounds kinds_known
  bounds_are {a} {b} {c} {k} {l} {n} h m p q r x y z =
      rw (← p, ← q, ← r, ← x, ← y, ← z, le-leb s.columns 16 h, le-leb s.pool.0 4294967295 (omega arith)) (simp (and_assoc, and-true))

  pub bounds_columns : 16 < s.columns → false ≡ in_bounds s
  unfolding in_bounds
  bounds_columns h =
      rw (lt-leb s.columns 16 h)
      (none (between 1 s.target.0 65536) (between s.target.0 s.rows.0 65536) (between 1 s.queue 1024))
    where
      none : (a b c : Bool) → false ≡ (a && (b && (c && false)))
      none false b c = refl
      none true false c = refl
      none true true false = refl
      none true true true = refl

-- what bounds say
pub record Bounded (s : BatchCoalescer) : Type 0 where
  pub few : Few s
  pub some-rows : 1 ≤ s.target.0
  pub target_in : s.target.0 ≤ s.rows.0
  pub some_queue : 1 ≤ s.queue
  pub some_lists : 1 ≤ s.lists
  pub some-numbers : 1 ≤ s.numbers

pub bounds_say : (s : BatchCoalescer) → in_bounds s ≡ true → Bounded s
unfolding in_bounds
bounds_say s e =
    let a = (and-eq-true_iff (between 1 s.target.0 65536) _).0 e in
    let b = (and-eq-true_iff _ _).0 a.1 in
    let c = (and-eq-true_iff _ _).0 b.1 in
    let d = (and-eq-true_iff _ _).0 c.1 in
    let f = (and-eq-true_iff (every (λ i. is_kind (width_at (column_of s i).kind)) s.columns) _).0 d.1 in
    let g = (and-eq-true_iff _ _).0 f.1 in
    let h = (and-eq-true_iff _ (leb s.pool.0 4294967295)).0 g.1 in
    record {
      few =
          record {
            rows = (between-says s.target.0 s.rows.0 65536 b.0).1;
            queue = (between-says 1 s.queue 1024 c.0).1;
            columns = leb-true s.columns 16 d.0;
            lists = (between-says 1 s.lists 1024 g.0).1;
            numbers = (between-says 1 s.numbers 65536 h.0).1;
          };
      some-rows = (between-says 1 s.target.0 65536 a.0).0;
      target_in = (between-says s.target.0 s.rows.0 65536 b.0).0;
      some_queue = (between-says 1 s.queue 1024 c.0).0;
      some_lists = (between-says 1 s.lists 1024 g.0).0;
      some-numbers = (between-says 1 s.numbers 65536 h.0).0;
    }

pub few_bounds : (s : BatchCoalescer) {r : Bool} → r ≡ in_bounds s → r ≡ true → Few s
few_bounds s p x = (bounds_say s (sym p ∙ x)).few

-- fits_set_up
module _ (s : BatchCoalescer) (slots pool books : ℕ) {b : Bool} (p : b ≡ in_bounds s) where
  pub fits_bounds : b ≡ false → false ≡ fits_lengths s slots pool books
  unfolding fits_lengths
  fits_bounds x = rw (← p, x)

  pub fits_are : {m n : ℕ} → b ≡ true → m ≡ slots_length s → n ≡ books_length s → ((eqb slots m && eqb pool s.pool.0) && eqb books n) ≡ fits_lengths s slots pool books
  unfolding fits_lengths
  fits_are x q r = rw (← p, x, q, r) (simp and_assoc)

-- what the test of 1 says
pub record FitsSetUp (s : BatchCoalescer) (slots pool books : ℕ) : Type 0 where
  pub bounded : Bounded s
  pub slots_are : slots ≡ slots_length s
  pub pool_is : pool ≡ s.pool.0
  pub books_are : books ≡ books_length s

pub fits-says : (s : BatchCoalescer) (slots pool books : ℕ) → fits_lengths s slots pool books ≡ true → FitsSetUp s slots pool books
unfolding fits_lengths
fits-says s slots pool books e =
    let a = (and-eq-true_iff _ _).0 e in
    let b = (and-eq-true_iff _ _).0 a.1 in
    let c = (and-eq-true_iff _ _).0 b.1 in
    record {
      bounded = bounds_say s a.0;
      slots_are = eqb-true slots (slots_length s) b.0;
      pool_is = eqb-true pool s.pool.0 c.0;
      books_are = eqb-true books (books_length s) c.1;
    }

module _ (s : BatchCoalescer) (slots pool books : ℕ) {r : Bool} (p : r ≡ fits_lengths s slots pool books) (x : r ≡ true) where
  pub fits_sized : Sized s slots books
  fits_sized =
      let f = fits-says s slots pool books (sym p ∙ x) in
      record { few = f.bounded.few; slots_are = f.slots_are; books_are = f.books_are }

  pub few_fits : Few s
  few_fits = fits_sized.few
