-- What rules says of a pushed column of views, in the words of this crate's contracts.
use Prim.Native.Nat.{ℕ, ◌+◌, ◌*◌}
use Rattle.std.specs.Prelude.{◌≡◌}
use Rattle.std.proofs.Math.Path.{refl, ap, fun_ext}
use Rattle.std.proofs.Common.{◌∙◌, arith}
use Rattle.views.specs.declared.View.{View}
use Rattle.views.specs.View.{view_of}
use Rattle.state.specs.World.{World}
use Rattle.state.specs.Layout.{width_of}
use Rattle.rules.specs.Batch.{Batch, record_of, listed_number, value_place, row_view, ideal, actual}
use Rattle.rules.specs.Copies.{views_at, long_to}
use Rattle.rules.specs.Views.{source_place, views_from, long_before, walked}
use Rattle.byte_view.specs.Copying.{capacities, walk_rows, source_in}

row-view : (w : World) (b : Batch) (c i : ℕ) → row_view w b c i ≡ view_of b.body (value_place w b c i)
unfolding row_view
row-view w b c i = refl

-- a row's place, counted from another row's
pub value_place_lem : (w : World) (b : Batch) (c from i : ℕ) → width_of w.state c ≡ 16 → value_place w b c (from + i) ≡ value_place w b c from + i * 16
unfolding value_place
value_place_lem w b c from i e = rw e (omega arith)

ideal-sum : (w : World) (b : Batch) (c : ℕ) → ideal w b c ≡ long_to (row_view w b c) b.rows
unfolding ideal long_to
ideal-sum w b c = refl

walked-rows : (w : World) (b : Batch) (c from n rest : ℕ) → walked w b c from n rest ≡ walk_rows (views_from w b c from) n rest
unfolding walked walk_rows long_before
walked-rows w b c from n rest = refl

module _ (w : World) (b : Batch) (c : ℕ) where
  -- where the bytes of a long view lie
  pub source_place_is : source_place w b c ≡ source_in w.books b.body (record_of b c).list
  unfolding source_place source_in listed_number
  source_place_is = refl

  -- actual
  pub actual_is : actual w b c ≡ capacities w.books b.body (record_of b c).list (record_of b c).count
  unfolding actual capacities listed_number
  actual_is = refl

  -- the views of the rows, where each has its 16 bytes
  pub views_are : width_of w.state c ≡ 16 → (from : ℕ) → views_from w b c from ≡ views_at b.body (value_place w b c from)
  views_are e from =
      fun_ext (λ i. row-view w b c (from + i) ∙ ap (view_of b.body) (value_place_lem w b c from i e))

  rows_are : width_of w.state c ≡ 16 → row_view w b c ≡ views_at b.body (value_place w b c 0)
  rows_are e = fun_ext (λ i. row-view w b c i ∙ ap (view_of b.body) (at i))
    where
      at : (i : ℕ) → value_place w b c i ≡ value_place w b c 0 + i * 16
      at i = let z : 0 + i ≡ i = omega arith in rw z at (value_place_lem w b c 0 i e)

  -- ideal
  pub ideal_is : width_of w.state c ≡ 16 → ideal w b c ≡ long_to (views_at b.body (value_place w b c 0)) b.rows
  ideal_is e = ideal-sum w b c ∙ ap (λ (f : ℕ → View). long_to f b.rows) (rows_are e)

  -- the bytes of the long ones among the first k views from `from` on
  pub long_before_is : width_of w.state c ≡ 16 → (from k : ℕ) → long_before w b c from k ≡ long_to (views_at b.body (value_place w b c from)) k
  unfolding long_before
  long_before_is e from k = ap (λ (f : ℕ → View). long_to f k) (views_are e from)

  -- the walk
  pub walked_is : width_of w.state c ≡ 16 → (from n rest : ℕ) → walked w b c from n rest ≡ walk_rows (views_at b.body (value_place w b c from)) n rest
  walked_is e from n rest =
      walked-rows w b c from n rest ∙ ap (λ (f : ℕ → View). walk_rows f n rest) (views_are e from)
