-- The counts that calls answer are counts of rows and batches of the history.
use Prim.Native.Nat.{ℕ, zero, suc, ◌+◌, ◌≤◌}
use Rattle.std.specs.Prelude.{◌≡◌, ◌≢◌, ◌&&◌, List, ◌∷◌, ◌++◌, ltb}
use Rattle.std.proofs.Math.Path.{refl, sym, ap}
use Rattle.std.proofs.Common.{◌∙◌, append-nil}
use Rattle.std.proofs.Math.Bool.{and-eq-true_iff}
use native.Mathlib.Omega.{arith}
use Rattle.std.proofs.Math.Decide.{ℕ_discrete}
use Rattle.std.proofs.Math.ListN.{length, length-append}
use Rattle.std.proofs.Math.Dec.{eqb}
use borrow.Author.Tests.{eq-eqb, ne_eqb, eqb-true}
use Rattle.search.specs.Cases.{both, same_test}
use Rattle.state.specs.World.{World}
use Rattle.state.specs.Layout.{rows_in, queued_slot}
use Rattle.state.specs.Rows.{up_to, joined, front_slot, slot_rows, taken_rows, queued_batches, queued_rows, buffered_rows}
use Rattle.rules.specs.Calls.{Wanted, set_up_call, drop_call, buffered_count, has_completed, is_empty}
use Rattle.rules.proofs.CallLaws.{drop-empty, drop-front}
use Rattle.invariant.specs.Holding.{Between}
use Rattle.invariant.specs.RowLaws.{upTo-first, length-rows, length-batches}
use Rattle.invariant.proofs.Calls.After.{rows_are}
use Rattle.invariant.proofs.Calls.Tested.{between-tested}
use Rattle.history.specs.Call.{Call, drop, front, step}
use Rattle.history.specs.Law.{content}
use Rattle.history.proofs.History.{did, in_order_lem}

module _ (w : World) where
  -- get_buffered_rows
  pub buffered_counts : buffered_count w.state ≡ length (buffered_rows w)
  unfolding buffered_count
  buffered_counts = sym (ap length (rows_are w) ∙ length-rows w w.state.place w.state.buffered.0)

  -- has_completed_batch
  pub completed_counts : has_completed w.state ≡ ltb 0 (length (queued_batches w))
  unfolding has_completed
  completed_counts = ap (ltb 0) (sym (length-batches w))

  -- the front batch is the first
  first-batch : (n : ℕ) → w.state.queued ≡ suc n → queued_batches w ≡ taken_rows w ∷ up_to n (λ k. slot_rows w (queued_slot w.state (suc k)) (rows_in w (queued_slot w.state (suc k))))
  unfolding queued_batches taken_rows
  first-batch n e =
      ap (λ (k : ℕ). up_to k (λ k. slot_rows w (queued_slot w.state k) (rows_in w (queued_slot w.state k)))) e
      ∙ upTo-first n (λ k. slot_rows w (queued_slot w.state k) (rows_in w (queued_slot w.state k)))

  taken-length : length (taken_rows w) ≡ rows_in w (front_slot w)
  unfolding taken_rows
  taken-length = length-rows w (front_slot w) (rows_in w (front_slot w))

  module _ (g : Between w) where
    -- next_completed_batch answers how many rows it takes
    pub drop_counts : (drop_call w).rows ≡ length (joined (step w drop).taken)
    unfolding step joined
    drop_counts = go (ℕ_discrete w.state.queued 0)
      where
        go : Dec (w.state.queued ≡ 0) → (drop_call w).rows ≡ length (joined (front w (drop_call w).number (eqb w.state.queued 0)))
        go (yes e) = rw (drop-empty w (between-tested g) e, eq-eqb w.state.queued 0 e)
        go (no n) =
            rw (drop-front w (between-tested g) n, ne_eqb w.state.queued 0 n)
            (sym (ap length (append-nil (taken_rows w)) ∙ taken-length))

    -- a queue with a batch has a row
    some-row : w.state.queued ≢ 0 → 1 ≤ length (queued_rows w)
    unfolding queued_rows joined
    some-row n = go w.state.queued refl
      where
        go : (k : ℕ) → w.state.queued ≡ k → 1 ≤ length (joined (queued_batches w))
        go zero e = absurd (n e)
        go (suc k) e =
            rw (first-batch k e)
            (omega (arith, length-append (taken_rows w) (joined (up_to k (λ k. slot_rows w (queued_slot w.state (suc k)) (rows_in w (queued_slot w.state (suc k)))))), taken-length, g.holding.some (front_slot w) (record { turn = 0; below = omega arith; is = refl })))

    no_row : w.state.queued ≡ 0 → length (queued_rows w) ≡ 0
    unfolding queued_rows queued_batches joined up_to
    no_row e = ap (λ (k : ℕ). length (joined (up_to k (λ k. slot_rows w (queued_slot w.state k) (rows_in w (queued_slot w.state k)))))) e

    -- is_empty: no row is held
    pub empty_counts : is_empty w.state ≡ eqb (length (content w)) 0
    unfolding is_empty content
    empty_counts =
        same_test (eqb w.state.buffered.0 0 && eqb w.state.queued 0) (eqb (length (queued_rows w ++ buffered_rows w)) 0)
        (λ t.
        let p = (and-eq-true_iff (eqb w.state.buffered.0 0) (eqb w.state.queued 0)).0 t in
        eq-eqb (length (queued_rows w ++ buffered_rows w)) 0 (omega (arith, held, no_row (eqb-true w.state.queued 0 p.1), eqb-true w.state.buffered.0 0 p.0)))
        (λ t.
        let z : length (queued_rows w ++ buffered_rows w) ≡ 0 = eqb-true (length (queued_rows w ++ buffered_rows w)) 0 t in
        both (eq-eqb w.state.buffered.0 0 (omega (arith, held))) (eq-eqb w.state.queued 0 (none z (ℕ_discrete w.state.queued 0))))
      where
        held : length (queued_rows w ++ buffered_rows w) ≡ length (queued_rows w) + w.state.buffered.0
        held =
            omega (
              arith,
              length-append (queued_rows w) (buffered_rows w),
              ap length (rows_are w),
              length-rows w w.state.place w.state.buffered.0,
            )

        none : length (queued_rows w ++ buffered_rows w) ≡ 0 → Dec (w.state.queued ≡ 0) → w.state.queued ≡ 0
        none z (yes e) = e
        none z (no n) = absurd (omega (arith, held, some-row n))

-- the accounts of a history: what was accepted and not taken is held
pub accounts : (a : Wanted) (slots pool books : List ℕ) (ok : (set_up_call a slots pool books).number ≡ 0) (cs : List Call) → length (did a slots pool books ok cs).accepted ≡ length (joined (did a slots pool books ok cs).taken) + (length (queued_rows (did a slots pool books ok cs).world) + buffered_count (did a slots pool books ok cs).world.state)
accounts a slots pool books ok cs =
    let d = did a slots pool books ok cs in
    omega (
      arith,
      ap length (in_order_lem a slots pool books ok cs),
      length-append (joined d.taken) (queued_rows d.world ++ buffered_rows d.world),
      length-append (queued_rows d.world) (buffered_rows d.world),
      buffered_counts d.world,
    )
