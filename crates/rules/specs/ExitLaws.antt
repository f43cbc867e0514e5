-- The checks' answer, from what is known where they end.
use Rattle.std.specs.Prelude.{ℕ, ◌*◌, ◌≤◌, ◌<◌, ◌≡◌, ◌≢◌, true, false, length}
use Rattle.std.proofs.Common.{◌∙◌}
use Rattle.std.proofs.Math.Path.{ap}
use Rattle.std.proofs.Math.Bool.{not}
use Rattle.std.specs.Prelude.{None, Some}
use borrow.Author.Tests.{le-leb, lt-leb, eq-eqb, ne_eqb}
use Rattle.search.specs.First.{first}
use Rattle.search.specs.FirstLaws.{at_is, nothing_is}
use Rattle.state.specs.World.{World}
use Rattle.rules.specs.Batch.{Batch}
use Rattle.rules.specs.declared.Fault.{Fault}
use Rattle.rules.specs.Checks.{keeps_rules, lies_in_body, all_held, valid_row, bad_row, fault, row_fault, column_fault, is_fault, of_column, batch_fault}

module _ (w : World) (b : Batch) where
  -- ---- one column

  module _ (c : ℕ) where
    pub column-four : keeps_rules w b c ≡ false → column_fault w b c ≡ fault 4 c 0
    unfolding column_fault
    column-four p = rw p

    pub column_five : keeps_rules w b c ≡ true → lies_in_body w b c ≡ false → column_fault w b c ≡ fault 5 c 0
    unfolding column_fault
    column_five p q = rw (p, q)

    pub column_six : keeps_rules w b c ≡ true → lies_in_body w b c ≡ true → all_held w b c ≡ false → column_fault w b c ≡ fault 6 c 0
    unfolding column_fault
    column_six p q r = rw (p, q, r)

    pub column-seven : (i : ℕ) → keeps_rules w b c ≡ true → lies_in_body w b c ≡ true → all_held w b c ≡ true → i < b.rows → valid_row w b c i ≡ false → ((j : ℕ) → j < i → valid_row w b c j ≡ true) → column_fault w b c ≡ fault 7 c i
    unfolding column_fault bad_row
    column-seven i p q r l v o =
        rw (p, q, r)
        (ap (row_fault c)
        (at_is (λ i. not (valid_row w b c i)) b.rows i (record { below = l; accepted = ap not v; others = λ j h. ap not (o j h) })))

    pub column-none : keeps_rules w b c ≡ true → lies_in_body w b c ≡ true → all_held w b c ≡ true → ((i : ℕ) → i < b.rows → valid_row w b c i ≡ true) → column_fault w b c ≡ None
    unfolding column_fault bad_row
    column-none p q r o =
        rw (p, q, r) (ap (row_fault c) (nothing_is (λ i. not (valid_row w b c i)) b.rows (λ i h. ap not (o i h))))

  -- ---- the batch

  pub batch_two : length b.records ≢ 32 * w.state.columns → batch_fault w b ≡ fault 2 0 0
  unfolding batch_fault
  batch_two h = rw (ne_eqb (length b.records) (32 * w.state.columns) h)

  pub batch_three : length b.records ≡ 32 * w.state.columns → w.state.rows.0 < b.rows → batch_fault w b ≡ fault 3 0 0
  unfolding batch_fault
  batch_three h l =
      rw (eq-eqb (length b.records) (32 * w.state.columns) h, lt-leb b.rows w.state.rows.0 l)

  module _ (h : length b.records ≡ 32 * w.state.columns) (l : b.rows ≤ w.state.rows.0) where
    -- what is left of it is the columns
    pub columns_left : batch_fault w b ≡ of_column (column_fault w b) (first (λ c. is_fault (column_fault w b c)) w.state.columns)
    unfolding batch_fault
    columns_left =
        rw (eq-eqb (length b.records) (32 * w.state.columns) h, le-leb b.rows w.state.rows.0 l)

    pub batch-at : (c : ℕ) (f : Fault) → c < w.state.columns → ((k : ℕ) → k < c → column_fault w b k ≡ None) → column_fault w b c ≡ Some f → batch_fault w b ≡ Some f
    batch-at c f m o e =
        columns_left
        ∙ ap (of_column (column_fault w b))
        (at_is (λ c. is_fault (column_fault w b c)) w.state.columns c
        (record { below = m; accepted = ap is_fault e; others = λ k n. ap is_fault (o k n) }))
        ∙ e

    pub batch-none : ((c : ℕ) → c < w.state.columns → column_fault w b c ≡ None) → batch_fault w b ≡ None
    batch-none o =
        columns_left
        ∙ ap (of_column (column_fault w b))
        (nothing_is (λ c. is_fault (column_fault w b c)) w.state.columns (λ c m. ap is_fault (o c m)))
