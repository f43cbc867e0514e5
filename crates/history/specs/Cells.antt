-- What a row is, cell by cell: of the rows pushed, taken, queued and buffered; null exactly where it was pushed null, and else its very bytes.
use Rattle.std.specs.Prelude.{ℕ, zero, suc, ◌<◌, ◌≡◌, refl, ◌≢◌, Bool, true, false, List, [], ◌∷◌, ◌++◌, length, get_or}
use Rattle.std.proofs.Common.{sym, ◌∙◌, ap, arith, eq-eqb, ne_eqb}
use Rattle.std.proofs.Math.Decide.{dec_lt}
use Rattle.std.proofs.Math.ListN.{get_or-append}
use Rattle.std.proofs.Math.Seq.{get_or-append_seam}
use Rattle.words.specs.Run.{read}
use Rattle.views.specs.View.{shows}
use Rattle.state.specs.World.{World}
use Rattle.state.specs.Layout.{width_of, is_views}
use Rattle.state.specs.Rows.{null, value, Row, up_to, cell_of, slot_cell, slot_row, slot_rows}
use Rattle.rules.specs.Batch.{Batch, row_bit, row_view, listed_bytes, value_place, batch_cell, batch_row, batch_rows}
use Rattle.invariant.specs.RowLaws.{length-upTo}

-- the element at place i
at-upTo {ℓ} : {A : Type ℓ} (n : ℕ) (f : ℕ → A) (d : A) (i : ℕ) → i < n → get_or (up_to n f) i d ≡ f i
unfolding up_to
at-upTo zero f d i h = absurd (omega arith)
at-upTo (suc n) f d i h = go (dec_lt i n) (at-upTo n f d i)
  where
    go : Dec (i < n) → (i < n → get_or (up_to n f) i d ≡ f i) → get_or (up_to n f ++ (f n ∷ [])) i d ≡ f i
    go (yes l) r = get_or-append (up_to n f) (f n ∷ []) d i (omega (arith, length-upTo n f)) ∙ r l
    go (no l) r =
        let e : i ≡ length (up_to n f) = omega (arith, length-upTo n f) in
        let z : n ≡ i = omega arith in
        ap (λ (k : ℕ). get_or (up_to n f ++ (f n ∷ [])) k d) e ∙ get_or-append_seam (up_to n f) (f n) [] d ∙ ap f z

-- row i of a batch, and its cell in column c
pub batch_cell_at : (w : World) (b : Batch) (c i : ℕ) → i < b.rows → c < w.state.columns → get_or (get_or (batch_rows w b) i []) c null ≡ batch_cell w b c i
unfolding batch_rows batch_row
batch_cell_at w b c i h q =
    ap (λ (r : Row). get_or r c null) (at-upTo b.rows (batch_row w b) [] i h) ∙ at-upTo w.state.columns (λ c. batch_cell w b c i) null c q

-- row i of a slot, and its cell in column c
pub slot_cell_at : (w : World) (slot n c i : ℕ) → i < n → c < w.state.columns → get_or (get_or (slot_rows w slot n) i []) c null ≡ slot_cell w slot c i
unfolding slot_rows slot_row
slot_cell_at w slot n c i h q =
    ap (λ (r : Row). get_or r c null) (at-upTo n (slot_row w slot) [] i h) ∙ at-upTo w.state.columns (λ c. slot_cell w slot c i) null c q

-- the cell as it was pushed
module _ (w : World) (b : Batch) (c i : ℕ) where
  pub pushed_null : row_bit b c i ≡ 0 → batch_cell w b c i ≡ null
  unfolding batch_cell cell_of
  pushed_null e = rw (eq-eqb (row_bit b c i) 0 e)

  pub pushed_value : row_bit b c i ≢ 0 → is_views w.state c ≡ false → batch_cell w b c i ≡ value (read (value_place w b c i) (width_of w.state c) b.body)
  unfolding batch_cell cell_of
  pushed_value n y = rw (ne_eqb (row_bit b c i) 0 n, y)

  pub pushed-view : row_bit b c i ≢ 0 → is_views w.state c ≡ true → batch_cell w b c i ≡ value (shows (row_view w b c i) (listed_bytes w b c))
  unfolding batch_cell cell_of row_view
  pushed-view n y = rw (ne_eqb (row_bit b c i) 0 n, y)

  -- null exactly there
  pub pushed_not_null : row_bit b c i ≢ 0 → batch_cell w b c i ≢ null
  pushed_not_null n e = go (is_views w.state c) refl
    where
      not_value : (l : List ℕ) → value l ≡ null → ⊥
      not_value l q = let z : ◌≡◌ {A = ℕ} 0 1 = cc in omega arith

      go : (v : Bool) → is_views w.state c ≡ v → ⊥
      go true y = not_value _ (sym (pushed-view n y) ∙ e)
      go false y = not_value _ (sym (pushed_value n y) ∙ e)
