-- What set-up fixed decides where things lie, and what a pushed batch says: two states of one set-up agree on all of it.
use Prim.Native.Nat.{ℕ, zero, suc, ◌+◌}
use Rattle.std.specs.Prelude.{◌≡◌}
use Rattle.std.proofs.Math.Path.{refl, ap}
use Rattle.std.proofs.Common.{◌∙◌}
use Rattle.kinds.specs.Kind.{width_at, is_view}
use Rattle.views.specs.View.{view_of, long_length}
use Rattle.state.specs.declared.BatchCoalescer.{BatchCoalescer}
use Rattle.state.specs.World.{World}
use Rattle.state.specs.Layout.{bytes_in, width_of, is_views, values_bytes, bitmap_bytes, list_bytes, columns_bytes, slot_bytes, values_place, bitmap_place, list_place, cell_place, slots_length, books_length, tally, next_slot}
use Rattle.rules.specs.Batch.{Batch, value_place, row_view, sum_to, ideal}
use Rattle.rules.specs.Copies.{long_to}
use Rattle.rules.specs.Views.{long_before}
use Rattle.rules.specs.Stays.{SameSetUp}

module _ {s t : BatchCoalescer} (e : SameSetUp s t) where
  pub same_width : (c : ℕ) → width_of t c ≡ width_of s c
  unfolding width_of
  same_width c = ap (λ k. bytes_in (width_at k)) (e.kind c)

  pub same_views : (c : ℕ) → is_views t c ≡ is_views s c
  unfolding is_views
  same_views c = ap is_view (e.kind c)

  -- R as a number
  rows : t.rows.0 ≡ s.rows.0
  rows = ap (λ r. r.0) e.rows

  pub same_values_bytes : (c : ℕ) → values_bytes t c ≡ values_bytes s c
  unfolding values_bytes
  same_values_bytes c = rw (same_width c, rows)

  pub same_bitmap_bytes : bitmap_bytes t ≡ bitmap_bytes s
  unfolding bitmap_bytes
  same_bitmap_bytes = rw rows

  pub same_list_bytes : (c : ℕ) → list_bytes t c ≡ list_bytes s c
  unfolding list_bytes
  same_list_bytes c = rw (same_views c, e.lists)

  pub same_columns_bytes : (c : ℕ) → columns_bytes t c ≡ columns_bytes s c
  unfolding columns_bytes
  same_columns_bytes zero = refl
  same_columns_bytes (suc c) = rw (same_columns_bytes c, same_values_bytes c, same_bitmap_bytes, same_list_bytes c)

  pub same_slot_bytes : slot_bytes t ≡ slot_bytes s
  unfolding slot_bytes
  same_slot_bytes = same_columns_bytes t.columns ∙ ap (columns_bytes s) e.columns

  pub same_values_place : (slot c : ℕ) → values_place t slot c ≡ values_place s slot c
  unfolding values_place
  same_values_place slot c = rw (same_slot_bytes, same_columns_bytes c)

  pub same_bitmap_place : (slot c : ℕ) → bitmap_place t slot c ≡ bitmap_place s slot c
  unfolding bitmap_place
  same_bitmap_place slot c = rw (same_values_place slot c, same_values_bytes c)

  pub same_list_place : (slot c : ℕ) → list_place t slot c ≡ list_place s slot c
  unfolding list_place
  same_list_place slot c = rw (same_bitmap_place slot c, same_bitmap_bytes)

  pub same_cell_place : (slot c i : ℕ) → cell_place t slot c i ≡ cell_place s slot c i
  unfolding cell_place
  same_cell_place slot c i = rw (same_values_place slot c, same_width c)

  pub same_slots_length : slots_length t ≡ slots_length s
  unfolding slots_length
  same_slots_length = rw (same_slot_bytes, e.queue)

  pub same_books_length : books_length t ≡ books_length s
  unfolding books_length
  same_books_length = rw (e.numbers, e.columns, e.queue)

  pub same-tally : (slot k : ℕ) → tally t slot k ≡ tally s slot k
  same-tally slot k = rw (e.numbers, e.columns)

  pub same_next : (slot : ℕ) → next_slot t slot ≡ next_slot s slot
  unfolding next_slot
  same_next slot = rw e.queue

-- a pushed batch: what is read of it hangs on the width of its columns alone
pub sum_same : (n : ℕ) (f g : ℕ → ℕ) → ((i : ℕ) → f i ≡ g i) → sum_to n f ≡ sum_to n g
unfolding sum_to
sum_same zero f g h = refl
sum_same (suc n) f g h = rw (sum_same n f g h, h n)

module _ (w v : World) (b : Batch) (e : SameSetUp w.state v.state) where
  pub same_value_place : (c i : ℕ) → value_place v b c i ≡ value_place w b c i
  unfolding value_place
  same_value_place c i = rw (same_width e c)

  pub same_row_view : (c i : ℕ) → row_view v b c i ≡ row_view w b c i
  unfolding row_view
  same_row_view c i = ap (view_of b.body) (same_value_place c i)

  pub same-ideal : (c : ℕ) → ideal v b c ≡ ideal w b c
  unfolding ideal
  same-ideal c = sum_same b.rows _ _ (λ i. ap long_length (same_row_view c i))

  pub same_long_before : (c from k : ℕ) → long_before v b c from k ≡ long_before w b c from k
  unfolding long_before long_to
  same_long_before c from k = sum_same k _ _ (λ i. ap long_length (same_row_view c (from + i)))
