-- A sheet shows the rows that the next drop takes, each cell of them, and no read of it is refused.
use Rattle.std.specs.Prelude.{ℕ, zero, suc, ◌<◌, ◌≡◌, refl, ◌≢◌, true, List, [], ◌∷◌, ◌++◌, map}
use Rattle.std.proofs.Common.{sym, ◌∙◌, ap, arith, lt-ltb}
use Rattle.std.specs.Prelude.{Some}
use Rattle.search.specs.Cases.{both}
use Rattle.words.specs.WordLaws.{Bytes}
use Rattle.state.specs.World.{World}
use Rattle.state.specs.Layout.{rows_in}
use Rattle.state.specs.Rows.{up_to, front_slot, slot_cell, slot_row, slot_rows, taken_rows}
use Rattle.rules.specs.Calls.{is_row, read_row, read_as}
use Rattle.invariant.specs.Holding.{Between}
use Rattle.invariant.specs.RowLaws.{upTo-ext}
use Rattle.history.proofs.RowReads.{read_cell}
use Rattle.strip_story.specs.StripAfter.{sheet}

map-append {ℓ m} : {A : Type ℓ} {B : Type m} (f : A → B) (l r : List A) → map f (l ++ r) ≡ map f l ++ map f r
map-append f [] r = refl
map-append f (x ∷ l) r = ap (λ k. f x ∷ k) (map-append f l r)

map-upTo {ℓ m} : {A : Type ℓ} {B : Type m} (f : A → B) (n : ℕ) (g : ℕ → A) → map f (up_to n g) ≡ up_to n (λ i. f (g i))
unfolding up_to
map-upTo f zero g = refl
map-upTo f (suc n) g = map-append f (up_to n g) (g n ∷ []) ∙ ap (λ k. k ++ (f (g n) ∷ [])) (map-upTo f n g)

-- there is such a row
is_row_lem : (w : World) (c i : ℕ) → w.state.queued ≢ 0 → c < w.state.columns → i < rows_in w (front_slot w) → is_row w c i ≡ true
unfolding is_row
is_row_lem w c i q h l =
    let p : 0 < w.state.queued = omega arith in
    both (lt-ltb 0 w.state.queued p) (both (lt-ltb c w.state.columns h) (lt-ltb i (rows_in w (front_slot w)) l))

pub sheet-shows : (w : World) → Between w → Bytes w.slots → w.state.queued ≢ 0 → sheet w ≡ map (map Some) (taken_rows w)
unfolding sheet taken_rows slot_rows slot_row
sheet-shows w g bytes q =
    upTo-ext (rows_in w (front_slot w)) _ _ (λ i l. row i l)
    ∙ sym (map-upTo (map Some) (rows_in w (front_slot w)) (slot_row w (front_slot w)))
  where
    row : (i : ℕ) → i < rows_in w (front_slot w) → up_to w.state.columns (λ c. read_as w (read_row w c i)) ≡ map Some (up_to w.state.columns (λ c. slot_cell w (front_slot w) c i))
    row i l =
        upTo-ext w.state.columns _ _ (λ c h. read_cell g bytes c i (is_row_lem w c i q h l))
        ∙ sym (map-upTo Some w.state.columns (λ c. slot_cell w (front_slot w) c i))
