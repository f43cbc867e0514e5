-- Laws of views put one behind the other and of their bytes: lengths, what a view that was put reads as, and what is left as it was.
use Rattle.std.specs.Prelude.{ℕ, zero, suc, ◌+◌, ◌*◌, ◌≤◌, ◌<◌, ◌≡◌, refl, List, length}
use Rattle.std.proofs.Common.{◌∙◌, arith}
use Rattle.std.proofs.Math.Decide.{dec_lt}
use Rattle.words.specs.Frame.{Framed, under}
use Rattle.words.specs.FrameLaws.{framed_refl, framed_trans, framed_wider}
use Rattle.pool.specs.CarryLaws.{length-carried}
use Rattle.views.specs.declared.View.{View}
use Rattle.views.specs.View.{view_of, with_view}
use Rattle.views.specs.StoreLaws.{ViewWords, length-with_view, view_framed, view-same, view_other}
use Rattle.rules.specs.Copies.{views_put, bytes_carried}

pub length-views_put : (f : ℕ → View) (slots : List ℕ) (to n : ℕ) → length (views_put f slots to n) ≡ length slots
unfolding views_put
length-views_put f slots to zero = refl
length-views_put f slots to (suc n) = length-with_view (views_put f slots to n) _ (f n) ∙ length-views_put f slots to n

pub length-bytes_carried : (f : ℕ → View) (source : View → ℕ) (pool : List ℕ) (to n : ℕ) → length (bytes_carried f source pool to n) ≡ length pool
unfolding bytes_carried
length-bytes_carried f source pool to zero = refl
length-bytes_carried f source pool to (suc n) =
    length-carried (bytes_carried f source pool to n) _ _ _ ∙ length-bytes_carried f source pool to n

pub views_framed : (f : ℕ → View) (slots : List ℕ) (to n : ℕ) → Framed to (to + n * 16) slots (views_put f slots to n)
unfolding views_put
views_framed f slots to zero = framed_refl to (to + 0 * 16) slots
views_framed f slots to (suc n) =
    framed_trans (framed_wider to (to + suc n * 16) (views_framed f slots to n) (omega arith) (omega arith))
    (framed_wider to (to + suc n * 16) (view_framed (views_put f slots to n) (to + n * 16) (f n)) (omega arith) (omega arith))

pub views_read : (f : ℕ → View) (slots : List ℕ) (to n : ℕ) → to + n * 16 ≤ length slots → ((j : ℕ) → j < n → ViewWords (f j)) → (j : ℕ) → j < n → view_of (views_put f slots to n) (to + j * 16) ≡ f j
unfolding views_put
views_read f slots to zero h fits j l = absurd (omega arith)
views_read f slots to (suc n) h fits j l = go (dec_lt j n) (λ d. views_read f slots to n (omega arith) (λ i k. fits i (omega arith)) j d)
  where
    go : Dec (j < n) → (j < n → view_of (views_put f slots to n) (to + j * 16) ≡ f j) → view_of (with_view (views_put f slots to n) (to + n * 16) (f n)) (to + j * 16) ≡ f j
    go (yes d) r = view_other (views_put f slots to n) (to + n * 16) (f n) (to + j * 16) (under (omega arith)) ∙ r d
    go (no d) r =
        let e : j ≡ n = omega arith in
        rw e (view-same (views_put f slots to n) (to + n * 16) (f n) (omega (arith, length-views_put f slots to n)) (fits n (omega arith)))
