-- What the reading functions answer: a law for each way out.
use Rattle.counts.specs.declared.BufferNumber.{BufferNumber}
use Rattle.counts.specs.declared.RowCount.{RowCount}
use Rattle.std.specs.Prelude.{Option, Some, None}
use Rattle.std.specs.Prelude.{ℕ, zero, suc, ◌+◌, ◌<◌, ◌≡◌, refl, Bool, List, length, get_or, eqb}
use Rattle.std.proofs.Math.Path.{sym}
use Rattle.std.proofs.Common.{◌∙◌, arith, zero-add, eq-eqb, ne_eqb}
use Rattle.std.proofs.lemmas.List.{ext_get_or}
use Rattle.std.proofs.lemmas.List.FromFn.{length-range_with_len, get_or-range_with_len}
use Rattle.std.specs.List.{range_with_len, AllWithin, HoldsAt}
use Rattle.std.specs.Bool.{MatchBool}
use Rattle.std.specs.Array.{IsFromFnResult, IsFromFnResultFrom}
use denote.Param.Members.{Mut, Called}
use Rattle.std.proofs.Math.Bool.{true, false}
use Rattle.search.specs.Every.{every, every_is, all_fails}
use Rattle.search.specs.Cases.{both_fails, both_rest}
use Rattle.words.specs.Word.{word32}
use Rattle.state.specs.declared.BatchCoalescer.{BatchCoalescer}
use Rattle.state.specs.declared.Column.{Column}
use Rattle.state.specs.World.{no_column}
use Rattle.codes.specs.declared.Coded.{Coded}
use Rattle.codes.specs.TakeLaws.{length-columns_in, get_d_columns_in}
use Rattle.codes.specs.Code.{
  state_bytes,
  is_flagged,
  limit_in,
  block_in,
  column_place,
  column_in,
  columns_in,
  state_in,
  is_column_coded,
  is_coded,
  zero_state,
  decoded,
}

-- a flag of 0, and another
pub limit_unset : (f w : ℕ) → f ≡ 0 → None ≡ limit_in f w
unfolding limit_in
limit_unset f w h = rw (eq-eqb f 0 h)

pub limit_set_lem : (f w : ℕ) → (f ≡ 0 → ⊥) → Some (record { 0 = w }) ≡ limit_in f w
unfolding limit_in
limit_set_lem f w h = rw (ne_eqb f 0 h)

pub block_closed : (f w : ℕ) → f ≡ 0 → None ≡ block_in f w
unfolding block_in
block_closed f w h = rw (eq-eqb f 0 h)

pub block_open : (f w : ℕ) → (f ≡ 0 → ⊥) → Some (record { 0 = w }) ≡ block_in f w
unfolding block_in
block_open f w h = rw (ne_eqb f 0 h)

pub flag_off : (f w : ℕ) → f ≡ 0 → eqb w 0 ≡ is_flagged f w
unfolding is_flagged
flag_off f w h = rw (eq-eqb f 0 h)

pub flag_on : (f w : ℕ) → (f ≡ 0 → ⊥) → eqb f 1 ≡ is_flagged f w
unfolding is_flagged
flag_on f w h = rw (ne_eqb f 0 h)

-- what column_at returns
pub column_is : (b : List ℕ) (c : ℕ) {k n f w : ℕ} {o : Option BufferNumber} → k ≡ word32 b (column_place c) → n ≡ word32 b (column_place c + 4) → f ≡ word32 b (column_place c + 8) → w ≡ word32 b (column_place c + 12) → o ≡ block_in f w → ◌≡◌ {A = Column} (record { kind = k; source = record { current = record { 0 = n } }; block = o }) (column_in b c)
unfolding column_in
column_is b c p q r t u = rw (u, p, q, r, t)

-- what an array's from_fn returns, of a closure that stays as it is: each element as one call gives it
module _ {F B : Type 0} {g : Mut F (ℕ × Unit {0}) B} {f : F} (P : ℕ → B → Type 0) (once : (i : ℕ) (y : B) (q : F) → Called g f (i, tt) y q → (q ≡ f) × P i y) where
  each_from : (n i : ℕ) {e : F} (ys : List B) (d : B) → e ≡ f → IsFromFnResultFrom g e ys i n → (k : ℕ) → k < n → P (i + k) (get_or ys (i + k) d)
  each_from zero i ys d e r k h = absurd (omega arith)
  each_from (suc n) i ys d e (q, y, at, called, rest) zero h =
      let z : i + 0 ≡ i = omega arith in
      rw (z, at.1 d) (once i y q (rw e at called)).1
  each_from (suc n) i ys d e (q, y, at, called, rest) (suc k) h =
      let z : i + suc k ≡ i + 1 + k = omega arith in
      rw z (each_from n (i + 1) ys d (once i y q (rw e at called)).0 rest k (omega arith))

  pub each_made : {n : ℕ} {ys : List B} (d : B) → IsFromFnResult g f ys n → (k : ℕ) → k < n → P k (get_or ys k d)
  each_made {n} {ys} d r k h = let z : 0 + k ≡ k = omega arith in rw z at (each_from n 0 ys d refl r.each k h)

-- what columns_of returns: 16 columns, each as it is read
pub columns_are : (b : List ℕ) (l : List Column) → length l ≡ 16 → ((c : ℕ) → c < 16 → get_or l c no_column ≡ column_in b c) → l ≡ columns_in b 16
columns_are b l n h =
    ext_get_or no_column l (columns_in b 16) (n ∙ sym (length-columns_in b 16))
    (λ c k. h c (omega arith) ∙ sym (get_d_columns_in b 16 c (omega arith)))

-- what state_of returns
pub state_is : (b : List ℕ) {t r q c l n p f w k m u : ℕ} {o : Option RowCount} {ds : List Column} → ds ≡ columns_in b 16 → t ≡ word32 b 0 → r ≡ word32 b 4 → q ≡ word32 b 8 → c ≡ word32 b 12 → l ≡ word32 b 16 → n ≡ word32 b 20 → p ≡ word32 b 24 → f ≡ word32 b 28 → w ≡ word32 b 32 → o ≡ limit_in f w → k ≡ word32 b 36 → m ≡ word32 b 40 → u ≡ word32 b 44 → ◌≡◌ {A = BatchCoalescer} (record { target = record { 0 = t }; rows = record { 0 = r }; queue = q; columns = c; lists = l; numbers = n; pool = record { 0 = p }; limit = o; place = k; queued = m; buffered = record { 0 = u }; column = ds }) (state_in b)
unfolding state_in
state_is b e₀ e₁ e₂ e₃ e₄ e₅ e₆ e₇ e₈ e₉ g e₁₀ e₁₁ e₁₂ = rw (g, e₀, e₁, e₂, e₃, e₄, e₅, e₆, e₇, e₈, e₉, e₁₀, e₁₁, e₁₂)

-- what a range's `all` returns of a test
pub every_all : (p : ℕ → Bool) (n : ℕ) (r : Bool) → MatchBool r (AllWithin (λ c. p c ≡ true) (range_with_len 0 n) 0 (length (range_with_len 0 n))) ((k : ℕ) × (k < length (range_with_len 0 n)) × HoldsAt (λ c. p c ≡ false) (range_with_len 0 n) k) → r ≡ every p n
every_all p n true h =
    sym (every_is p n (λ i l. rw (get_or-range_with_len 0 n i 0 l, zero-add i) at (h i 0 (omega arith) (rw (length-range_with_len 0 n) l))))
every_all p n false (k, l, h) =
    let m : k < n = rw (length-range_with_len 0 n) at l in
    all_fails p n k m (rw (get_or-range_with_len 0 n k 0 m, zero-add k) at (h 0))

-- every flag: the limit's, and each column's
module _ (b : List ℕ) where
  pub flags_column : (c : ℕ) {f w : ℕ} {r : Bool} → f ≡ word32 b (column_place c + 8) → w ≡ word32 b (column_place c + 12) → r ≡ is_flagged f w → r ≡ is_column_coded b c
  unfolding is_column_coded
  flags_column c p q r = r ∙ rw (p, q)

  limit_true : {f w : ℕ} {r : Bool} → f ≡ word32 b 28 → w ≡ word32 b 32 → r ≡ is_flagged f w → r ≡ is_flagged (word32 b 28) (word32 b 32)
  limit_true p q r = r ∙ rw (p, q)

  pub coded_columns : {f w : ℕ} {r u : Bool} → f ≡ word32 b 28 → w ≡ word32 b 32 → r ≡ is_flagged f w → r ≡ true → u ≡ every (is_column_coded b) 16 → u ≡ is_coded b
  unfolding is_coded
  coded_columns p q r t e =
      let k : is_flagged (word32 b 28) (word32 b 32) ≡ true = sym (limit_true p q r) ∙ t in
      e ∙ both_rest (every (is_column_coded b) 16) k

  pub coded_not_limit : {f w : ℕ} {r : Bool} → f ≡ word32 b 28 → w ≡ word32 b 32 → r ≡ is_flagged f w → r ≡ false → false ≡ is_coded b
  unfolding is_coded
  coded_not_limit p q r t = both_fails (every (is_column_coded b) 16) (sym (limit_true p q r) ∙ t)

  -- the ways out of decode
  pub decoded_state : {r : Bool} {s : BatchCoalescer} → length b ≡ state_bytes → r ≡ is_coded b → r ≡ true → s ≡ state_in b → ◌≡◌ {A = Coded} (record { number = 0; state = s }) (decoded b)
  unfolding decoded
  decoded_state h p q e =
      let t : is_coded b ≡ true = sym p ∙ q in
      rw (eq-eqb (length b) state_bytes h, t, e)

  pub decoded-none : {r : Bool} {s : BatchCoalescer} → length b ≡ state_bytes → r ≡ is_coded b → r ≡ false → s ≡ state_in b → ◌≡◌ {A = Coded} (record { number = 14; state = s }) (decoded b)
  unfolding decoded
  decoded-none h p q e =
      let t : is_coded b ≡ false = sym p ∙ q in
      rw (eq-eqb (length b) state_bytes h, t, e)

  pub decoded-length : {s : BatchCoalescer} → (length b ≡ state_bytes → ⊥) → s ≡ zero_state → ◌≡◌ {A = Coded} (record { number = 1; state = s }) (decoded b)
  unfolding decoded
  decoded-length h e = rw (ne_eqb (length b) state_bytes h, e)
