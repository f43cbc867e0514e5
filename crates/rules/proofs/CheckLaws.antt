-- The fault that the checks give is the first, and no fault says that every rule holds.
use Rattle.std.specs.Prelude.{ℕ, ◌*◌, ◌≤◌, ◌<◌, ◌≡◌, ◌≢◌, Bool, List, [], ◌∷◌, length}
use Rattle.std.proofs.Math.Path.{refl}
use Rattle.std.proofs.Common.{sym, ◌∙◌, ap, subst, true≢false, arith}
use Rattle.std.proofs.Math.Bool.{true, false, not}
use Rattle.std.specs.Prelude.{Option, None, Some}
use Rattle.std.proofs.Math.Decide.{dec_lt, ℕ_discrete}
use borrow.Author.Tests.{not-true, not-false}
use Rattle.search.specs.First.{first, Lowest}
use Rattle.search.specs.FirstLaws.{at-says, nothing-says}
use Rattle.state.specs.World.{World}
use Rattle.rules.specs.Batch.{Batch}
use Rattle.rules.specs.declared.Fault.{Fault}
use Rattle.rules.specs.Checks.{keeps_rules, lies_in_body, all_held, valid_row, bad_row, column_fault, is_fault, of_column, batch_fault}
use Rattle.rules.specs.Held.{Among, one_of}
use Rattle.rules.specs.ExitLaws.{column-four, column_five, column_six, column-seven, column-none, batch_two, batch_three, columns_left}

-- the numbers of the checks
abbrev pub check_numbers : List ℕ
check_numbers = 2 ∷ 3 ∷ 4 ∷ 5 ∷ 6 ∷ 7 ∷ []

module _ (w : World) (b : Batch) where
  -- ---- one column

  -- every rule holds of column c, in every row
  pub record ColumnGood (c : ℕ) : Type 0 where
    pub rules : keeps_rules w b c ≡ true
    pub body : lies_in_body w b c ≡ true
    pub held : all_held w b c ≡ true
    pub valid : (i : ℕ) → i < b.rows → valid_row w b c i ≡ true

  -- the first rule that column c breaks, by its number; for 7 the first row that does. 01: "per column 4, 5, 6, and 7 by rows"
  pub data ColumnBad (c : ℕ) (f : Fault) : Type 0 where
    four : f.number ≡ 4 → keeps_rules w b c ≡ false → ColumnBad c f
    five : f.number ≡ 5 → keeps_rules w b c ≡ true → lies_in_body w b c ≡ false → ColumnBad c f
    six : f.number ≡ 6 → keeps_rules w b c ≡ true → lies_in_body w b c ≡ true → all_held w b c ≡ false → ColumnBad c f
    seven : f.number ≡ 7 → keeps_rules w b c ≡ true → lies_in_body w b c ≡ true → all_held w b c ≡ true → f.row < b.rows → valid_row w b c f.row ≡ false → ((i : ℕ) → i < f.row → valid_row w b c i ≡ true) → ColumnBad c f

  -- what the checks of a column say, with the column that they name
  abbrev pub ColumnSays : ℕ → Option Fault → Type 0
  ColumnSays c None = ColumnGood c
  ColumnSays c (Some f) = ColumnBad c f × (f.column ≡ c)

  pub column-says : (c : ℕ) → ColumnSays c (column_fault w b c)
  unfolding bad_row
  column-says c = go (keeps_rules w b c) refl (lies_in_body w b c) refl (all_held w b c) refl (bad_row w b c) refl
    where
      go : (x : Bool) → keeps_rules w b c ≡ x → (y : Bool) → lies_in_body w b c ≡ y → (z : Bool) → all_held w b c ≡ z → (o : Option ℕ) → bad_row w b c ≡ o → ColumnSays c (column_fault w b c)
      go false p y q z r o e = rw (column-four w b c p) (four refl p, refl)
      go true p false q z r o e = rw (column_five w b c p q) (five refl p q, refl)
      go true p true q false r o e = rw (column_six w b c p q r) (six refl p q r, refl)
      go true p true q true r None e =
          let v : (i : ℕ) → i < b.rows → valid_row w b c i ≡ true = λ i l. not-false _ (nothing-says (λ i. not (valid_row w b c i)) b.rows e i l) in
          rw (column-none w b c p q r v) (record { rules = p; body = q; held = r; valid = v })
      go true p true q true r (Some i) e =
          let m : Lowest (λ i. not (valid_row w b c i)) b.rows i = at-says (λ i. not (valid_row w b c i)) b.rows i e in
          let v : valid_row w b c i ≡ false = not-true _ m.accepted in
          let o : (j : ℕ) → j < i → valid_row w b c j ≡ true = λ j l. not-false _ (m.others j l) in
          rw (column-seven w b c i p q r m.below v o) (seven refl p q r m.below v o, refl)

  pub column_good : (c : ℕ) → column_fault w b c ≡ None → ColumnGood c
  column_good c e = rw e at (column-says c)

  pub column_bad : (c : ℕ) (f : Fault) → column_fault w b c ≡ Some f → ColumnBad c f
  column_bad c f e = (rw e at (column-says c)).0

  -- ---- the batch

  -- every rule holds
  pub record BatchGood : Type 0 where
    pub records : length b.records ≡ 32 * w.state.columns
    pub rows : b.rows ≤ w.state.rows.0
    pub columns : (c : ℕ) → c < w.state.columns → ColumnGood c

  -- the first rule that the batch breaks. 01: "then 2, 3, then per column .."
  pub data BatchBad (f : Fault) : Type 0 where
    two : f.number ≡ 2 → length b.records ≢ 32 * w.state.columns → BatchBad f
    three : f.number ≡ 3 → length b.records ≡ 32 * w.state.columns → w.state.rows.0 < b.rows → BatchBad f
    in_column : length b.records ≡ 32 * w.state.columns → b.rows ≤ w.state.rows.0 → f.column < w.state.columns → ((c : ℕ) → c < f.column → column_fault w b c ≡ None) → column_fault w b f.column ≡ Some f → ColumnBad f.column f → BatchBad f

  -- what the checks of the batch say
  abbrev pub BatchSays : Option Fault → Type 0
  BatchSays None = BatchGood
  BatchSays (Some f) = BatchBad f

  -- no fault is none
  no_fault : (o : Option Fault) → is_fault o ≡ false → o ≡ None
  no_fault None e = refl
  no_fault (Some f) e = absurd (true≢false e)

  pub batch-says : BatchSays (batch_fault w b)
  batch-says = go (ℕ_discrete (length b.records) (32 * w.state.columns)) (dec_lt w.state.rows.0 b.rows)
    where
      at : (b.rows ≤ w.state.rows.0) → length b.records ≡ 32 * w.state.columns → (c : ℕ) → Lowest (λ c. is_fault (column_fault w b c)) w.state.columns c → (o : Option Fault) → column_fault w b c ≡ o → BatchSays o
      at p q c m None e = absurd (true≢false (sym m.accepted ∙ ap is_fault e))
      at p q c m (Some f) e =
          let t : f.column ≡ c = (rw e at (column-says c)).1 in
          in_column q p (rw t m.below) (λ k l. no_fault _ (m.others k (rw t at l)))
          (subst (λ (k : ℕ). column_fault w b k ≡ Some f) (sym t) e)
          (subst (λ (k : ℕ). ColumnBad k f) (sym t) (column_bad c f e))

      columns : (b.rows ≤ w.state.rows.0) → length b.records ≡ 32 * w.state.columns → (r : Option ℕ) → first (λ c. is_fault (column_fault w b c)) w.state.columns ≡ r → BatchSays (of_column (column_fault w b) r)
      columns p q None e =
          record {
            records = q;
            rows = p;
            columns = λ c l. column_good c (no_fault _ (nothing-says (λ c. is_fault (column_fault w b c)) w.state.columns e c l));
          }
      columns p q (Some c) e =
          at p q c (at-says (λ c. is_fault (column_fault w b c)) w.state.columns c e) (column_fault w b c) refl

      go : Dec (length b.records ≡ 32 * w.state.columns) → Dec (w.state.rows.0 < b.rows) → BatchSays (batch_fault w b)
      go (no q) d = rw (batch_two w b q) (two refl q)
      go (yes q) (yes l) = rw (batch_three w b q l) (three refl q l)
      go (yes q) (no l) =
          let p : b.rows ≤ w.state.rows.0 = omega arith in
          rw (columns_left w b q p) (columns p q (first (λ c. is_fault (column_fault w b c)) w.state.columns) refl)

  pub batch_good : batch_fault w b ≡ None → BatchGood
  batch_good e = rw e at batch-says

  pub batch_bad : (f : Fault) → batch_fault w b ≡ Some f → BatchBad f
  batch_bad f e = rw e at batch-says

  -- a fault has one of these numbers
  pub fault-number : (f : Fault) → batch_fault w b ≡ Some f → Among check_numbers f.number
  fault-number f e = go (batch_bad f e)
    where
      is : (n : ℕ) → Among check_numbers n → f.number ≡ n → Among check_numbers f.number
      is n a q = rw q a

      column : (c : ℕ) → ColumnBad c f → Among check_numbers f.number
      column c (four q p) = is 4 (one_of _ 4 tt) q
      column c (five q p r) = is 5 (one_of _ 5 tt) q
      column c (six q p r s) = is 6 (one_of _ 6 tt) q
      column c (seven q p r s l v o) = is 7 (one_of _ 7 tt) q

      go : BatchBad f → Among check_numbers f.number
      go (two q p) = is 2 (one_of _ 2 tt) q
      go (three q p r) = is 3 (one_of _ 3 tt) q
      go (in_column p r l o q x) = column f.column x
