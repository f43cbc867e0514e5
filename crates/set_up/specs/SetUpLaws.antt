-- Set-up: the turns of its loops, and a law for each exit.
use Rattle.std.specs.Prelude.{None}
use Prim.Native.Nat.{ℕ, zero, suc, ◌+◌, ◌≤◌, ◌<◌}
use Rattle.std.specs.Prelude.{◌≡◌, Bool, true, false, List, [], ◌∷◌, length, replicate}
use Rattle.std.proofs.Math.Path.{refl}
use Rattle.std.proofs.Common.{sym, ◌∙◌, ap, subst, arith, le_of_suc-le-suc, ext_get_or, lt-ltb, le-ltb}
use Rattle.std.proofs.Math.Decide.{dec_lt, ℕ_discrete}
use Rattle.std.proofs.Math.ListN.{get_or, get_or-eq_default}
use Rattle.std.specs.Array.{IsFromFnResultFrom}
use denote.Param.Members.{Mut, Called}
use Rattle.state.specs.declared.BatchCoalescer.{BatchCoalescer}
use Rattle.state.specs.declared.Column.{Column}
use Rattle.blocks.specs.declared.BufferSource.{BufferSource}
use Rattle.blocks.specs.Block.{fresh}
use Rattle.rules.specs.Ranges.{fits_set_up}
use Rattle.ranges.specs.Tested.{fits_lengths}
use Rattle.rules.specs.Calls.{of_kind, columns_for, new_state, no_state, set_up_call}
use Rattle.rules.proofs.CallLaws.{set_up_done, set_up_not}
use Rattle.set_up.specs.declared.Wanted.{Wanted}
use Rattle.set_up.specs.SetUp.{padded, wanted_of, kind_at, SetsUp}

-- ---- kinds

pub kind_in : (columns : ℕ) (kinds : List ℕ) (c : ℕ) → c < columns → get_or kinds c 0 ≡ kind_at columns kinds c
unfolding kind_at
kind_in columns kinds c h = rw (lt-ltb c columns h)

pub kind_past : (columns : ℕ) (kinds : List ℕ) (c : ℕ) → columns ≤ c → 0 ≡ kind_at columns kinds c
unfolding kind_at
kind_past columns kinds c h = rw (le-ltb c columns h)

length-padded : (n : ℕ) (l : List ℕ) → length (padded n l) ≡ n
unfolding padded
length-padded zero l = refl
length-padded (suc n) [] = ap suc (length-padded n [])
length-padded (suc n) (x ∷ l) = ap suc (length-padded n l)

padded_in : (n : ℕ) (l : List ℕ) (i : ℕ) → i < n → get_or (padded n l) i 0 ≡ get_or l i 0
unfolding padded
padded_in zero l i h = absurd (omega arith)
padded_in (suc n) [] zero h = refl
padded_in (suc n) [] (suc i) h = padded_in n [] i (le_of_suc-le-suc h)
padded_in (suc n) (x ∷ l) zero h = refl
padded_in (suc n) (x ∷ l) (suc i) h = padded_in n l i (le_of_suc-le-suc h)

padded_past : (n : ℕ) (l : List ℕ) (i : ℕ) → n ≤ i → get_or (padded n l) i 0 ≡ 0
padded_past n l i h = get_or-eq_default (padded n l) 0 (omega (arith, length-padded n l))

padded-at : (n : ℕ) (l : List ℕ) (i : ℕ) → get_or (padded n l) i 0 ≡ kind_at n l i
padded-at n l i = go (dec_lt i n)
  where
    go : Dec (i < n) → get_or (padded n l) i 0 ≡ kind_at n l i
    go (yes h) = padded_in n l i h ∙ kind_in n l i h
    go (no h) = padded_past n l i (omega arith) ∙ kind_past n l i (omega arith)

-- ---- columns

pub column-fresh : (kind : ℕ) {x : BufferSource} → x ≡ fresh → record { kind = kind; source = x; block = None } ≡ of_kind kind
column-fresh kind e = rw e

pub columns_fresh : {x : Column} → x ≡ of_kind 0 → replicate 16 x ≡ replicate 16 (of_kind 0)
columns_fresh e = ap (replicate 16) e

length_columns : (l : List ℕ) (n : ℕ) → length (columns_for l n) ≡ n
unfolding columns_for
length_columns l zero = refl
length_columns [] (suc n) = ap suc (length_columns [] n)
length_columns (x ∷ l) (suc n) = ap suc (length_columns l n)

columns_at_lem : (l : List ℕ) (n i : ℕ) → i < n → get_or (columns_for l n) i (of_kind 0) ≡ of_kind (get_or l i 0)
unfolding columns_for
columns_at_lem l zero i h = absurd (omega arith)
columns_at_lem [] (suc n) zero h = refl
columns_at_lem [] (suc n) (suc i) h = columns_at_lem [] n i (le_of_suc-le-suc h)
columns_at_lem (x ∷ l) (suc n) zero h = refl
columns_at_lem (x ∷ l) (suc n) (suc i) h = columns_at_lem l n i (le_of_suc-le-suc h)

-- elements made by calls of a function of the index, which stays as it is
pub made_each : {F B : Type 0} {g : Mut F (ℕ × Unit {0}) B} {f : F} (ys : List B) (i n : ℕ) → IsFromFnResultFrom g f ys i n → (v : ℕ → B) → ((i : ℕ) (y : B) (q : F) → Called g f (i, tt) y q → (q ≡ f) × (y ≡ v i)) → (j : ℕ) → i ≤ j → j < i + n → (e : B) → get_or ys j e ≡ v j
made_each ys i zero x v k j l h e = absurd (omega arith)
made_each {F} {B} {g} {f} ys i (suc n) (q, y, a, c, x) v k j l h e = go (ℕ_discrete j i) (λ m o. made_each ys (i + 1) n (subst (λ r. IsFromFnResultFrom g r ys (i + 1) n) (k i y q c).0 x) v k j m o e)
  where
    go : Dec (j ≡ i) → (i + 1 ≤ j → j < i + 1 + n → get_or ys j e ≡ v j) → get_or ys j e ≡ v j
    go (yes z) rest = rw z (a.1 e ∙ (k i y q c).1)
    go (no z) rest = rest (omega arith) (omega arith)

-- an array of 16 whose elements are fresh columns of the kinds
pub columns_all : (columns : ℕ) (kinds : List ℕ) {t : List Column} → length t ≡ 16 → ((i : ℕ) → i < 16 → get_or t i (of_kind 0) ≡ of_kind (kind_at columns kinds i)) → t ≡ columns_for (padded columns kinds) 16
columns_all columns kinds {t} long each =
    ext_get_or (of_kind 0) _ _ (long ∙ sym (length_columns (padded columns kinds) 16))
    (λ i h. each i (omega (arith, long)) ∙ ap of_kind (sym (padded-at columns kinds i)) ∙ sym (columns_at_lem (padded columns kinds) 16 i (omega (arith, long))))

-- ---- states

pub state_new : (w : Wanted) {column : List Column} → column ≡ columns_for (padded w.columns w.kinds) 16 → record { target = record { 0 = w.target.0 }; rows = record { 0 = w.rows.0 }; queue = w.queue; columns = w.columns; lists = w.lists; numbers = w.numbers; pool = record { 0 = w.pool.0 }; limit = None; place = 0; queued = 0; buffered = record { 0 = 0 }; column = column } ≡ new_state (wanted_of w)
unfolding new_state wanted_of
state_new w e = rw (e, length-padded w.columns w.kinds)

pub state_none : {column : List Column} → column ≡ replicate 16 (of_kind 0) → record { target = record { 0 = 0 }; rows = record { 0 = 0 }; queue = 0; columns = 0; lists = 0; numbers = 0; pool = record { 0 = 0 }; limit = None; place = 0; queued = 0; buffered = record { 0 = 0 }; column = column } ≡ no_state
unfolding new_state columns_for
state_none e = rw e

-- ---- the exits

module _ (w : Wanted) (slots pool books : List ℕ) {s : BatchCoalescer} (p : s ≡ new_state (wanted_of w)) {b : Bool} (q : b ≡ fits_lengths s (length slots) (length pool) (length books)) where
  fits : b ≡ fits_set_up (record { state = new_state (wanted_of w); slots = slots; pool = pool; books = books })
  unfolding fits_set_up fits_lengths
  fits = rw (← p) q

  pub set_up_yes : {books' : List ℕ} → b ≡ true → books' ≡ replicate (length books) 0 → SetsUp (set_up_call (wanted_of w) slots pool books) books' (record { state = s; number = 0 })
  set_up_yes x e =
      rw (set_up_done (wanted_of w) slots pool books (sym fits ∙ x)) (record { state_is = p; number_is = refl; books_are = e })

  pub set_up_no : {t : BatchCoalescer} → b ≡ false → t ≡ no_state → SetsUp (set_up_call (wanted_of w) slots pool books) books (record { state = t; number = 1 })
  set_up_no x e =
      rw (set_up_not (wanted_of w) slots pool books (sym fits ∙ x)) (record { state_is = e; number_is = refl; books_are = refl })
