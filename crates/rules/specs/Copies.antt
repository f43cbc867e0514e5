-- Views put one behind the other, and the bytes of the long ones among them copied within the pool.
use Rattle.std.specs.Prelude.{ℕ, zero, suc, ◌+◌, ◌*◌, Bool, true, cond, List, leb}
use Rattle.search.specs.Every.{every}
use Rattle.pool.specs.Carry.{carried}
use Rattle.views.specs.declared.View.{View}
use Rattle.views.specs.View.{view_of, is_inline, with_view, long_length}
use Rattle.rules.specs.Batch.{sum_to}

-- the views that stand one behind the other from a place of a body on
abbrev pub views_at : List ℕ → ℕ → ℕ → View
views_at body at i = view_of body (at + i * 16)

-- n views, from a place of the slots on
unfoldable pub views_put : (ℕ → View) → List ℕ → ℕ → ℕ → List ℕ
views_put f slots to zero = slots
views_put f slots to (suc i) = with_view (views_put f slots to i) (to + i * 16) (f i)

-- the bytes of the long ones among the first n views
unfoldable pub long_to : (ℕ → View) → ℕ → ℕ
long_to f n = sum_to n (λ i. long_length (f i))

-- the bytes of the long ones among n views, one run behind the other from `to` of the pool on; `source` says where a view's bytes lie
unfoldable pub bytes_carried : (ℕ → View) → (View → ℕ) → List ℕ → ℕ → ℕ → List ℕ
bytes_carried f source pool to zero = pool
bytes_carried f source pool to (suc i) =
    carried (bytes_carried f source pool to i) (source (f i)) (to + long_to f i) (long_length (f i))

-- 8: "a copied row would start past 4,294,967,295": each long one of n views begins within a word, behind those before it and the `filled` bytes
unfoldable pub starts_fit : (ℕ → View) → ℕ → ℕ → Bool
starts_fit f filled n = every (λ i. cond (is_inline (f i)) true (leb (filled + long_to f i) 4294967295)) n
