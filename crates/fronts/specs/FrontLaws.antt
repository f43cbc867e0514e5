-- One law for each exit of the call on the front batch, and for what is put in bytes.
use Rattle.std.specs.Prelude.{ℕ, zero, suc, ◌+◌, ◌*◌, ◌≡◌, List, [], length}
use Rattle.std.proofs.Math.Path.{refl}
use Rattle.std.proofs.Common.{sym, ◌∙◌, ap}
use borrow.Author.Tests.{eq-eqb, ne_eqb}
use Rattle.counts.specs.declared.RowCount.{RowCount}
use Rattle.state.specs.declared.BatchCoalescer.{BatchCoalescer}
use Rattle.state.specs.World.{World, world}
use Rattle.state.specs.Layout.{rows_in, list_length, queued_slot}
use Rattle.rules.specs.Ranges.{tested}
use Rattle.fronts.specs.Front.{front_refusal, front_rows, front_column, with_long, places_put, column_put, columns_put, front_call}
use Rattle.fronts.specs.Fronts.{FrontsCall}

-- ---- bytes

pub places_are : (out : List ℕ) (at values bitmap list : ℕ) {a b d : List ℕ} → a ≡ with_long out at values → b ≡ with_long a (at + 8) bitmap → d ≡ with_long b (at + 16) list → d ≡ places_put out at values bitmap list
unfolding places_put
places_are out at values bitmap list p q t = rw (t, q, p)

-- the places do not look at the pool
same_columns : (s : BatchCoalescer) (slots pool books out : List ℕ) (n : ℕ) → columns_put (world s slots [] books) out n ≡ columns_put (world s slots pool books) out n
unfolding columns_put front_column list_length
same_columns s slots pool books out zero = refl
same_columns s slots pool books out (suc n) =
    ap (λ (o : List ℕ). column_put o (32 * n) (front_column (world s slots pool books) n)) (same_columns s slots pool books out n)

-- ---- front_batch: n is what the tests answered

module _ (s : BatchCoalescer) (slots pool books out : List ℕ) where
  abbrev w : World
  w = world s slots pool books

  pub front_short : (length out ≡ 512 → ⊥) → FrontsCall (front_call (world s slots pool books) out) out (record { number = 1; rows = record { 0 = 0 } })
  unfolding front_call
  front_short h = rw (ne_eqb (length out) 512 h) (record { number_is = refl; rows_are = refl; out_is = refl })

  module _ (l : length out ≡ 512) {n : ℕ} (e : n ≡ tested (world s slots pool books)) where
    pub front-tested : (n ≡ 0 → ⊥) → FrontsCall (front_call (world s slots pool books) out) out (record { number = n; rows = record { 0 = 0 } })
    unfolding front_call front_rows front_refusal
    front-tested h =
        rw (eq-eqb (length out) 512 l, ← e, ne_eqb n 0 h, ne_eqb n 0 h) (record { number_is = refl; rows_are = refl; out_is = refl })

    module _ (z : n ≡ 0) where
      tests : tested (world s slots pool books) ≡ 0
      tests = sym e ∙ z

      pub front-none : s.queued ≡ 0 → FrontsCall (front_call (world s slots pool books) out) out (record { number = 13; rows = record { 0 = 0 } })
      unfolding front_call front_rows front_refusal
      front-none q = rw (eq-eqb (length out) 512 l, tests, q) (record { number_is = refl; rows_are = refl; out_is = refl })

      pub front-done : {slot : ℕ} {rows : RowCount} {out' : List ℕ} → (s.queued ≡ 0 → ⊥) → slot ≡ queued_slot s 0 → out' ≡ columns_put (world s slots [] books) out s.columns → rows.0 ≡ rows_in (world s [] [] books) slot → FrontsCall (front_call (world s slots pool books) out) out' (record { number = 0; rows = rows })
      unfolding front_call front_rows front_refusal rows_in
      front-done q o p t =
          rw (eq-eqb (length out) 512 l, tests, ne_eqb s.queued 0 q)
          (record { number_is = refl; rows_are = t ∙ rw o; out_is = p ∙ same_columns s slots pool books out s.columns })
