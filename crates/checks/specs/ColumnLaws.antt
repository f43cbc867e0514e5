-- The exits of the checks of a column and of the batch.
use Rattle.std.specs.Prelude.{ℕ, ◌*◌, ◌≡◌, refl, Bool, true, false, List, [], length, Result, Ok, Err}
use Rattle.std.proofs.Math.Path.{sym}
use Rattle.std.proofs.Common.{◌∙◌, ap}
use Rattle.std.specs.Prelude.{Option, None, Some}
use Rattle.search.specs.First.{first}
use Rattle.kinds.specs.Kind.{is_view, width_at}
use Rattle.state.specs.declared.BatchCoalescer.{BatchCoalescer}
use Rattle.state.specs.declared.Column.{Column}
use Rattle.state.specs.World.{World, world, column_of}
use Rattle.state.specs.Layout.{bytes_in, width_of, is_views}
use Rattle.state.proofs.LayoutLaws.{views_width}
use Rattle.rules.specs.declared.ColumnRecord.{ColumnRecord}
use Rattle.rules.specs.declared.Fault.{Fault}
use Rattle.rules.specs.Batch.{Batch, batch, record_of, listed_bytes, value_place, row_view}
use Rattle.rules.specs.Checks.{is_ruled, keeps_rules, in_body, lies_within, lies_in_body, held_all, all_held, valid_row, bad_row, row_fault, column_fault}
use Rattle.rules.specs.ExitLaws.{column-four, column_five, column_six, column-none}
use Rattle.column_checks.specs.Tested.{found, bad_at, bad_in}
use Rattle.checks.specs.Checked.{fault_at, refused_by, row_refused}
use Rattle.column_checks.specs.RuleLaws.{values_in}

-- ---- rows

module _ (s : BatchCoalescer) (pool books records body : List ℕ) (rows c : ℕ) where
  no_view_row : is_views s c ≡ false → (i : ℕ) → valid_row (world s [] pool books) (batch rows records body) c i ≡ true
  unfolding valid_row
  no_view_row e i = rw e

  -- the bad row of a column of views is the first that the code's test finds
  bad_row_is : is_views s c ≡ true → bad_row (world s [] pool books) (batch rows records body) c ≡ first (bad_at books pool body (record_of (batch 0 records []) c)) rows
  unfolding bad_row valid_row bad_at row_view value_place listed_bytes record_of
  bad_row_is e = simp (e, views_width s c e)

row_fault_is : (c : ℕ) (o : Option ℕ) → refused_by (row_fault c o) ≡ row_refused c (found o)
row_fault_is c None = refl
row_fault_is c (Some i) = refl

-- ---- a column

module _ (s : BatchCoalescer) (pool books records body : List ℕ) (rows c : ℕ) where
  abbrev W : World
  W = world s [] pool books

  abbrev B : Batch
  B = batch rows records body

  module _ {k : Column} {r : ColumnRecord} (at : k ≡ column_of s c) (read : r ≡ record_of (batch 0 records []) c) where
    rules_is : {x : Bool} → x ≡ is_ruled r k.kind → x ≡ keeps_rules W B c
    unfolding keeps_rules record_of
    rules_is e = rw (read, at) at e

    wide : {width : ℕ} → width ≡ bytes_in (width_at k.kind) → width ≡ width_of s c
    unfolding width_of
    wide e = rw at at e

    lies_is : {x : Bool} {width : ℕ} → width ≡ bytes_in (width_at k.kind) → x ≡ lies_within r rows width (length body) → x ≡ lies_in_body W B c
    unfolding lies_in_body record_of
    lies_is p e = rw (read, wide p) at e

    held_is : {x : Bool} → x ≡ held_all books body r.list r.count → x ≡ all_held W B c
    unfolding all_held record_of
    held_is e = rw read at e

    views_are : {v : Bool} → v ≡ is_view k.kind → v ≡ is_views s c
    unfolding is_views
    views_are e = rw at at e

    -- 4, 5, 6: the first that fails
    pub at-four : {x : Bool} {f : Result (Unit {0}) Fault} → x ≡ is_ruled r k.kind → x ≡ false → f ≡ Err (fault_at 4 c 0) → f ≡ refused_by (column_fault W B c)
    at-four e z q = q ∙ sym (ap refused_by (column-four W B c (sym (rules_is e) ∙ z)))

    module _ {x : Bool} (ruled : x ≡ is_ruled r k.kind) (yes-ruled : x ≡ true) where
      pub at_five : {y : Bool} {width : ℕ} {f : Result (Unit {0}) Fault} → width ≡ bytes_in (width_at k.kind) → y ≡ lies_within r rows width (length body) → y ≡ false → f ≡ Err (fault_at 5 c 0) → f ≡ refused_by (column_fault W B c)
      at_five p e z q = q ∙ sym (ap refused_by (column_five W B c (sym (rules_is ruled) ∙ yes-ruled) (sym (lies_is p e) ∙ z)))

      module _ {y : Bool} {width : ℕ} (wide_is : width ≡ bytes_in (width_at k.kind)) (lies : y ≡ lies_within r rows width (length body)) (yes-lies : y ≡ true) where
        pub at_six : {z : Bool} {f : Result (Unit {0}) Fault} → z ≡ held_all books body r.list r.count → z ≡ false → f ≡ Err (fault_at 6 c 0) → f ≡ refused_by (column_fault W B c)
        at_six e n q =
            q
            ∙ sym
            (ap refused_by
            (column_six W B c (sym (rules_is ruled) ∙ yes-ruled) (sym (lies_is wide_is lies) ∙ yes-lies) (sym (held_is e) ∙ n)))

        module _ {z v : Bool} (held : z ≡ held_all books body r.list r.count) (yes-held : z ≡ true) (view : v ≡ is_view k.kind) where
          -- a column of no views has no bad row
          pub no_views : v ≡ false → Ok tt ≡ refused_by (column_fault W B c)
          no_views n =
              sym
              (ap refused_by
              (column-none W B c (sym (rules_is ruled) ∙ yes-ruled) (sym (lies_is wide_is lies) ∙ yes-lies) (sym (held_is held) ∙ yes-held)
              (λ i l. no_view_row s pool books records body rows c (sym (views_are view) ∙ n) i)))

          -- a column of views has the fault of its first bad row
          pub views_rows : {f : Result (Unit {0}) Fault} → v ≡ true → f ≡ row_refused c (bad_in books pool body r rows) → f ≡ refused_by (column_fault W B c)
          unfolding column_fault bad_in
          views_rows y q =
              q
              ∙ sym
              (rw (sym (rules_is ruled) ∙ yes-ruled, sym (lies_is wide_is lies) ∙ yes-lies, sym (held_is held) ∙ yes-held, read, bad_row_is s pool books records body rows c (sym (views_are view) ∙ y))
              (row_fault_is c (first (bad_at books pool body (record_of (batch 0 records []) c)) rows)))

-- what the rows' function asks: 16 bytes of each row lie in the body
pub rows_in_lem : (s : BatchCoalescer) (c : ℕ) (r : ColumnRecord) (rows size : ℕ) {k : Column} {width : ℕ} {y v : Bool} → k ≡ column_of s c → width ≡ bytes_in (width_at k.kind) → y ≡ lies_within r rows width size → y ≡ true → v ≡ is_view k.kind → v ≡ true → in_body r.values (rows * 16) size ≡ true
unfolding is_views width_of
rows_in_lem s c r rows size {k} {width} p q e z f y =
    let i : is_views s c ≡ true = ap (λ (x : Column). is_view x.kind) (sym p) ∙ sym f ∙ y in
    rw (q ∙ ap (λ (x : Column). bytes_in (width_at x.kind)) p ∙ views_width s c i) at (values_in r rows width size e z)
