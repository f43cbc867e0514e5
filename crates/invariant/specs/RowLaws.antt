-- Rows as lists: one behind another, and the rows of two worlds that read the same.
use Rattle.std.specs.Prelude.{ℕ, zero, suc, ◌+◌, ◌<◌, ◌≡◌, refl, List, [], ◌∷◌, ◌++◌, length}
use Rattle.std.proofs.Common.{sym, ◌∙◌, ap, append_assoc, append-nil, arith, length-append}
use Rattle.state.specs.World.{World}
use Rattle.state.specs.Layout.{rows_in, queued_slot}
use Rattle.state.specs.Rows.{Row, up_to, joined, slot_cell, slot_row, slot_rows, queued_batches}
use Rattle.rules.specs.Batch.{Batch, batch_cell, batch_row, batch_rows}

-- ---- f 0, f 1, ..

pub upTo-ext {ℓ} : {A : Type ℓ} (n : ℕ) (f g : ℕ → A) → ((i : ℕ) → i < n → f i ≡ g i) → up_to n f ≡ up_to n g
unfolding up_to
upTo-ext zero f g h = refl
upTo-ext (suc n) f g h = rw (upTo-ext n f g (λ i l. h i (omega arith)), h n (omega arith))

pub upTo-more {ℓ} : {A : Type ℓ} (n m : ℕ) (f : ℕ → A) → up_to (n + m) f ≡ up_to n f ++ up_to m (λ i. f (n + i))
unfolding up_to
upTo-more n zero f = let e : n + 0 ≡ n = omega arith in rw e (sym (append-nil (up_to n f)))
upTo-more n (suc m) f =
    let e : n + suc m ≡ suc (n + m) = omega arith in
    rw (e, upTo-more n m f) (append_assoc (up_to n f) (up_to m (λ i. f (n + i))) (f (n + m) ∷ []))

pub upTo-first {ℓ} : {A : Type ℓ} (n : ℕ) (f : ℕ → A) → up_to (suc n) f ≡ f 0 ∷ up_to n (λ i. f (suc i))
unfolding up_to
upTo-first zero f = refl
upTo-first (suc n) f = ap (λ l. l ++ (f (suc n) ∷ [])) (upTo-first n f)

pub length-upTo {ℓ} : {A : Type ℓ} (n : ℕ) (f : ℕ → A) → length (up_to n f) ≡ n
unfolding up_to
length-upTo zero f = refl
length-upTo (suc n) f = length-append (up_to n f) (f n ∷ []) ∙ omega (arith, length-upTo n f)

-- lists one behind the other
pub joined-append {ℓ} : {A : Type ℓ} (a b : List (List A)) → joined (a ++ b) ≡ joined a ++ joined b
unfolding joined
joined-append [] b = refl
joined-append (x ∷ xs) b = simp (joined-append xs b, append_assoc)

-- ---- rows

-- cells that read the same are rows that do
pub rows-read : (w v : World) (slot n : ℕ) → v.state.columns ≡ w.state.columns → ((c i : ℕ) → c < w.state.columns → i < n → slot_cell v slot c i ≡ slot_cell w slot c i) → slot_rows v slot n ≡ slot_rows w slot n
unfolding slot_rows slot_row
rows-read w v slot n e h =
    upTo-ext n _ _ (λ i l.
    ap (λ (k : ℕ). up_to k (λ c. slot_cell v slot c i)) e ∙ upTo-ext w.state.columns _ _ (λ c q. h c i q l))

pub no_rows : (w : World) (slot : ℕ) → slot_rows w slot 0 ≡ []
unfolding slot_rows up_to
no_rows w slot = refl

pub length-rows : (w : World) (slot n : ℕ) → length (slot_rows w slot n) ≡ n
unfolding slot_rows
length-rows w slot n = length-upTo n (slot_row w slot)

-- n rows of a batch, from row `from` on
unfoldable pub batch_part : World → Batch → ℕ → ℕ → List Row
batch_part w b from n = up_to n (λ i. batch_row w b (from + i))

pub part_all : (w : World) (b : Batch) → batch_part w b 0 b.rows ≡ batch_rows w b
unfolding batch_part batch_rows
part_all w b = upTo-ext b.rows _ _ (λ i l. ap (batch_row w b) (omega arith))

pub part_more : (w : World) (b : Batch) (from n m : ℕ) → batch_part w b from (n + m) ≡ batch_part w b from n ++ batch_part w b (from + n) m
unfolding batch_part
part_more w b from n m =
    upTo-more n m (λ i. batch_row w b (from + i)) ∙ ap (λ l. up_to n (λ i. batch_row w b (from + i)) ++ l) (upTo-ext m _ _ (λ i l. ap (batch_row w b) (omega arith)))

pub part_same : (w v : World) (b : Batch) (from n : ℕ) → v.state.columns ≡ w.state.columns → ((c i : ℕ) → c < w.state.columns → i < n → batch_cell v b c (from + i) ≡ batch_cell w b c (from + i)) → batch_part v b from n ≡ batch_part w b from n
unfolding batch_part batch_row
part_same w v b from n e h =
    upTo-ext n _ _ (λ i l.
    ap (λ (k : ℕ). up_to k (λ c. batch_cell v b c (from + i))) e ∙ upTo-ext w.state.columns _ _ (λ c q. h c i q l))

-- rows of a slot behind those that were there are rows of a batch
pub rows_more : (w v : World) (b : Batch) (slot rows from n : ℕ) → v.state.columns ≡ w.state.columns → ((c j : ℕ) → c < w.state.columns → j < n → slot_cell v slot c (rows + j) ≡ batch_cell w b c (from + j)) → slot_rows v slot (rows + n) ≡ slot_rows v slot rows ++ batch_part w b from n
unfolding slot_rows batch_part slot_row batch_row
rows_more w v b slot rows from n e h =
    upTo-more rows n (slot_row v slot) ∙ ap (λ l. up_to rows (slot_row v slot) ++ l)
    (upTo-ext n _ _ (λ j l. ap (λ (k : ℕ). up_to k (λ c. slot_cell v slot c (rows + j))) e ∙ upTo-ext w.state.columns _ _ (λ c q. h c j q l)))

-- the queued batches of two worlds
pub batches-read : (w v : World) → v.state.queued ≡ w.state.queued → ((k : ℕ) → k < w.state.queued → slot_rows v (queued_slot v.state k) (rows_in v (queued_slot v.state k)) ≡ slot_rows w (queued_slot w.state k) (rows_in w (queued_slot w.state k))) → queued_batches v ≡ queued_batches w
unfolding queued_batches
batches-read w v e h =
    ap (λ (n : ℕ). up_to n (λ k. slot_rows v (queued_slot v.state k) (rows_in v (queued_slot v.state k)))) e
    ∙ upTo-ext w.state.queued _ _ h

pub length-batches : (w : World) → length (queued_batches w) ≡ w.state.queued
unfolding queued_batches
length-batches w = length-upTo w.state.queued _
