-- The checks 4, 5 and 6 of one record: a law for each exit of their functions, and what they tell.
use Rattle.std.specs.Prelude.{ℕ, ◌+◌, ◌*◌, ◌/◌, ◌≤◌, ◌<◌, ◌^◌, ◌≡◌, ◌&&◌, not, List, length, leb, eqb}
use Rattle.std.proofs.Math.Path.{refl}
use Rattle.std.proofs.Common.{sym, ◌∙◌, mul-le-mul, Fits}
use Rattle.std.proofs.Math.Bool.{Bool, true, false, cond, and_assoc, and-eq-true_iff}
use native.Mathlib.Omega.{arith}
use Rattle.std.proofs.Math.Decide.{ℕ_discrete}
use borrow.Author.Tests.{lt-ltb, le-ltb, leb-true, eqb-true, eq-eqb, ne_eqb, ltb-true}
use Rattle.std.specs.Int.{w64}
use Rattle.search.specs.Every.{every-says, All, all_none, all_more, all_fails, all_done}
use Rattle.words.specs.Word.{word32}
use Rattle.kinds.specs.Kind.{is_view}
use Rattle.books.specs.declared.Entry.{Entry}
use Rattle.books.specs.Entry.{used_of, entry_of}
use Rattle.pool.specs.Register.{is_held}
use Rattle.pool.specs.Read.{in_range}
use Rattle.pool.specs.ReadLaws.{range_says}
use Rattle.rules.specs.declared.ColumnRecord.{ColumnRecord}
use Rattle.rules.specs.Batch.{has_bitmap}
use Rattle.rules.specs.Checks.{is_ruled, in_body, bitmap_need, lies_within, held_all}
use Rattle.column_checks.specs.Tested.{bit_ruled, list_ruled, bits_within, Pooled, Heeded}

-- ---- 4

module _ (r : ColumnRecord) where
  pub bit_none : r.validity ≡ 4294967295 → eqb r.first 0 ≡ bit_ruled r
  unfolding bit_ruled has_bitmap
  bit_none e = rw (eq-eqb r.validity 4294967295 e)

  pub bit_some : (r.validity ≡ 4294967295 → ⊥) → true ≡ bit_ruled r
  unfolding bit_ruled has_bitmap
  bit_some h = rw (ne_eqb r.validity 4294967295 h)

  module _ (kind : ℕ) where
    pub list-empty : r.count ≡ 0 → eqb r.list 0 ≡ list_ruled r kind
    unfolding list_ruled
    list-empty e = rw (eq-eqb r.count 0 e) (go (eqb r.list 0) (is_view kind))
      where
        go : (x y : Bool) → x ≡ (x && cond y true true)
        go true true = refl
        go true false = refl
        go false y = refl

    pub list-some : {v : Bool} → (r.count ≡ 0 → ⊥) → v ≡ is_view kind → v ≡ list_ruled r kind
    unfolding list_ruled
    list-some {v} h e = rw (ne_eqb r.count 0 h, ← e) (go v)
      where
        go : (x : Bool) → x ≡ cond x true false
        go true = refl
        go false = refl

    -- keeps_rules: its tests together
    pub ruled_are : {x y : Bool} → x ≡ bit_ruled r → y ≡ list_ruled r kind → ((((eqb r.kind kind && eqb r.spare 0) && eqb r.spare2 0) && x) && y) ≡ is_ruled r kind
    unfolding is_ruled bit_ruled list_ruled
    ruled_are p q = rw (p, q) (simp and_assoc)

-- ---- 5

pub body_none : (start n size : ℕ) → n ≡ 0 → true ≡ in_body start n size
unfolding in_body
body_none start n size e = rw (eq-eqb n 0 e)

pub body_some : (start n size : ℕ) → (n ≡ 0 → ⊥) → leb (start + n) size ≡ in_body start n size
unfolding in_body
body_some start n size h = rw (ne_eqb n 0 h)

pub body_says : (start n size : ℕ) → in_body start n size ≡ true → (n ≡ 0 → ⊥) → start + n ≤ size
body_says start n size e h = leb-true (start + n) size (body_some start n size h ∙ e)

pub need_none : (first rows : ℕ) → rows ≡ 0 → 0 ≡ bitmap_need first rows
unfolding bitmap_need
need_none first rows e = rw (eq-eqb rows 0 e)

pub need_some : (first rows : ℕ) → (rows ≡ 0 → ⊥) → (first + rows + 7) / 8 ≡ bitmap_need first rows
unfolding bitmap_need
need_some first rows h = rw (ne_eqb rows 0 h)

pub values_fit : (rows width : ℕ) → rows ≤ 65536 → width ≤ 32 → Fits w64 (rows * width)
values_fit rows width p q = record { fits = omega (arith, mul-le-mul p q) }

pub values_few : (rows width : ℕ) → rows ≤ 65536 → width ≤ 32 → rows * width < 2 ^ 40
values_few rows width p q = omega (arith, mul-le-mul p q)

module _ (r : ColumnRecord) (rows : ℕ) where
  pub bits_none : (size : ℕ) → r.validity ≡ 4294967295 → true ≡ bits_within r rows size
  unfolding bits_within has_bitmap
  bits_none size e = rw (eq-eqb r.validity 4294967295 e)

  pub bits-some : (size : ℕ) {n : ℕ} {x : Bool} → (r.validity ≡ 4294967295 → ⊥) → n ≡ bitmap_need r.first rows → x ≡ in_body r.validity n size → x ≡ bits_within r rows size
  unfolding bits_within has_bitmap
  bits-some size {n} {x} h e f = rw (ne_eqb r.validity 4294967295 h, ← e) f

  module _ (width size : ℕ) {x : Bool} where
    -- lies_in_body: its tests together
    pub lies_are : {y l : Bool} → x ≡ in_body r.values (rows * width) size → y ≡ bits_within r rows size → l ≡ in_body r.list (4 * r.count) size → ((x && y) && l) ≡ lies_within r rows width size
    unfolding lies_within bits_within
    lies_are p q s = rw (p, q, s) (simp and_assoc)

    -- what 5 tells of the values and of the list
    pub values_in : x ≡ lies_within r rows width size → x ≡ true → in_body r.values (rows * width) size ≡ true
    unfolding lies_within
    values_in f w = ((and-eq-true_iff _ _).0 (sym f ∙ w)).0

    list_in : x ≡ lies_within r rows width size → x ≡ true → in_body r.list (4 * r.count) size ≡ true
    unfolding lies_within
    list_in f w =
        let rest : Bool = cond (has_bitmap r) (in_body r.validity (bitmap_need r.first rows) size) true in
        let list : Bool = in_body r.list (4 * r.count) size in
        let h : (rest && list) ≡ true = ((and-eq-true_iff (in_body r.values (rows * width) size) (rest && list)).0 (sym f ∙ w)).1 in
        ((and-eq-true_iff rest list).0 h).1

-- what 4 tells of the list
list_ruled_lem : (r : ColumnRecord) (kind : ℕ) → is_ruled r kind ≡ true → r.count ≡ 0 → r.list ≡ 0
unfolding is_ruled
list_ruled_lem r kind h d =
    let list : Bool = cond (eqb r.count 0) (eqb r.list 0) true in
    let views : Bool = cond (is_view kind) true (eqb r.count 0) in
    let bit : Bool = cond (has_bitmap r) true (eqb r.first 0) in
    let a : (eqb r.spare 0 && (eqb r.spare2 0 && (bit && (list && views)))) ≡ true = ((and-eq-true_iff (eqb r.kind kind) _).0 h).1 in
    let b : (eqb r.spare2 0 && (bit && (list && views))) ≡ true = ((and-eq-true_iff (eqb r.spare 0) _).0 a).1 in
    let c : (bit && (list && views)) ≡ true = ((and-eq-true_iff (eqb r.spare2 0) _).0 b).1 in
    let e : (list && views) ≡ true = ((and-eq-true_iff bit (list && views)).0 c).1 in
    let f : list ≡ true = ((and-eq-true_iff list views).0 e).0 in
    eqb-true r.list 0 (rw (eq-eqb r.count 0 d) at f)

-- both together: the list lies in the body
pub list_room : (r : ColumnRecord) (rows width size kind : ℕ) {x y : Bool} → y ≡ is_ruled r kind → y ≡ true → x ≡ lies_within r rows width size → x ≡ true → r.list + 4 * r.count ≤ size
list_room r rows width size kind e z f w = go (ℕ_discrete r.count 0)
  where
    go : Dec (r.count ≡ 0) → r.list + 4 * r.count ≤ size
    go (yes d) = omega (arith, list_ruled_lem r kind (sym e ∙ z) d)
    go (no d) = body_says r.list (4 * r.count) size (list_in r rows width size f w) (λ q. d (omega arith))

-- ---- 6

module _ (books : List ℕ) (k : ℕ) where
  pub held_beyond : {u : ℕ} → u ≡ word32 books 0 → u ≤ k → false ≡ is_held books k
  unfolding is_held used_of
  held_beyond {u} e h = rw (← e, le-ltb k u h)

  pub held_is : {u : ℕ} {e : Entry} → u ≡ word32 books 0 → k < u → e ≡ entry_of books k → not (eqb e.hold 0) ≡ is_held books k
  unfolding is_held used_of
  held_is {u} {e} p h q = rw (← p, lt-ltb k u h, ← q)

  pub entry_room : {u : ℕ} → u ≡ word32 books 0 → k < u → 4 + 20 * used_of books ≤ length books → 24 + 20 * k ≤ length books
  unfolding used_of
  entry_room e h l = omega arith

  pub held_used : is_held books k ≡ true → k < used_of books
  unfolding is_held
  held_used e = ltb-true k (used_of books) ((and-eq-true_iff _ _).0 e).0

-- the number listed at place i is held
unfoldable pub held_at : List ℕ → List ℕ → ℕ → ℕ → Bool
held_at books body list i = is_held books (word32 body (list + 4 * i))

module _ (books body : List ℕ) (list : ℕ) where
  pub held_none : All (held_at books body list) 0
  held_none = all_none _

  pub held_more : {i k : ℕ} {x : Bool} → All (held_at books body list) i → k ≡ word32 body (list + 4 * i) → x ≡ is_held books k → x ≡ true → All (held_at books body list) (i + 1)
  unfolding held_at
  held_more a p q z = all_more a (rw (← p, ← q) z)

  pub held_fails : {i k : ℕ} {x : Bool} (count : ℕ) → i < count → k ≡ word32 body (list + 4 * i) → x ≡ is_held books k → x ≡ false → false ≡ held_all books body list count
  unfolding held_all
  held_fails {i} count l p q z = all_fails _ count i l (rw (← p, ← q) z)

  pub held_done : {i : ℕ} (count : ℕ) → All (held_at books body list) i → count ≤ i → true ≡ held_all books body list count
  unfolding held_all held_at
  held_done count a l = all_done count a l

  heeded : (pool : List ℕ) (count : ℕ) {x : Bool} → Pooled books pool → list + 4 * count ≤ length body → x ≡ held_all books body list count → x ≡ true → Heeded books pool body list count
  unfolding held_all
  heeded pool count p l e z =
      record { pooled = p; listed = l; held = every-says (λ i. is_held books (word32 body (list + 4 * i))) count (sym e ∙ z) }

-- the test of ranges of a call gives what the checks ask of books and pool
pub pooled : (books pool : List ℕ) (n : ℕ) {x : Bool} → x ≡ in_range books n (length pool) → x ≡ true → 4 + 20 * n ≤ length books → Pooled books pool
pooled books pool n e z l =
    let h = range_says books n (length pool) (sym e ∙ z) in
    record {
      room = omega (arith, h.0);
      inside = λ k m. omega (arith, (h.1 k m).inside, (h.1 k m).filled);
    }

-- so 4, 5 and 6 give what the rows' function asks
pub record_heeded : (books pool body : List ℕ) (r : ColumnRecord) (rows width kind : ℕ) {x y z : Bool} → Pooled books pool → y ≡ is_ruled r kind → y ≡ true → x ≡ lies_within r rows width (length body) → x ≡ true → z ≡ held_all books body r.list r.count → z ≡ true → Heeded books pool body r.list r.count
record_heeded books pool body r rows width kind p e f g h i j =
    heeded books body r.list pool r.count p (list_room r rows width (length body) kind e f g h) i j
