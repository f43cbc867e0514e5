-- The front batch between its read and its drop: it rests, and the drop takes the rows that were read.
use Rattle.std.specs.Prelude.{ℕ, zero, suc, ◌≤◌, ◌≡◌, ◌≢◌, List, [], ◌++◌, length, get_or, eqb}
use Rattle.std.proofs.Math.Path.{refl, sym}
use Rattle.std.proofs.Common.{◌∙◌, ap, append-nil, arith, length-append, eq-eqb, ne_eqb}
use Rattle.std.proofs.Math.Decide.{ℕ_discrete}
use Rattle.std.proofs.Math.ListN.{get_or-append}
use Rattle.state.specs.World.{World}
use Rattle.state.specs.Layout.{rows_in, queued_slot}
use Rattle.state.specs.Rows.{Row, up_to, joined, front_slot, slot_rows, taken_rows, queued_batches}
use Rattle.rules.proofs.CallLaws.{drop-number}
use Rattle.invariant.specs.Holding.{Between}
use Rattle.invariant.specs.RowLaws.{upTo-first, length-rows, length-batches}
use Rattle.invariant.proofs.Calls.Tested.{between-tested}
use Rattle.history.specs.Call.{Call, drop, front, step}
use Rattle.history.specs.Law.{Law}
use Rattle.history.proofs.CallLaws.{call_law}
use Rattle.player_strip.specs.StripCall.{front_batch}
use Rattle.player_strip.specs.CallerLaws.{batch-some, batch-none}

-- ---- the rows of the front batch

-- the first of the queued batches
first_queued : (w : World) → w.state.queued ≢ 0 → get_or (queued_batches w) 0 [] ≡ taken_rows w
unfolding queued_batches taken_rows
first_queued w n = go w.state.queued refl
  where
    go : (k : ℕ) → w.state.queued ≡ k → get_or (up_to w.state.queued (λ k. slot_rows w (queued_slot w.state k) (rows_in w (queued_slot w.state k)))) 0 [] ≡ slot_rows w (front_slot w) (rows_in w (front_slot w))
    go zero e = absurd (n e)
    go (suc k) e =
        ap (λ (n : ℕ). get_or (up_to n (λ k. slot_rows w (queued_slot w.state k) (rows_in w (queued_slot w.state k)))) 0 []) e
        ∙ ap (λ (l : List (List Row)). get_or l 0 []) (upTo-first k (λ k. slot_rows w (queued_slot w.state k) (rows_in w (queued_slot w.state k))))

module _ (w : World) (g : Between w) where
  -- a queued batch has a row
  pub front-row : w.state.queued ≢ 0 → 1 ≤ length (taken_rows w)
  unfolding taken_rows
  front-row n =
      omega (arith, length-rows w (front_slot w) (rows_in w (front_slot w)), g.holding.some (front_slot w) (record { turn = 0; below = omega arith; is = refl }))

  -- a drop takes the rows that a read reads
  pub drop_takes : joined (step w drop).taken ≡ front_batch w
  unfolding step joined
  drop_takes = rw (drop-number w ∙ between-tested g) (go (ℕ_discrete w.state.queued 0))
    where
      go : Dec (w.state.queued ≡ 0) → joined (front w 0 (eqb w.state.queued 0)) ≡ front_batch w
      go (yes z) = rw (eq-eqb w.state.queued 0 z) (sym (batch-none w z))
      go (no n) = rw (ne_eqb w.state.queued 0 n) (append-nil (taken_rows w) ∙ sym (batch-some w n))

  -- a call that takes no batch leaves the front batch there, and as it was
  module _ (c : Call) (e : (step w c).taken ≡ []) (n : w.state.queued ≢ 0) where
    law : Law w (step w c)
    law = call_law w c g

    queued_are : queued_batches (step w c).world ≡ queued_batches w ++ law.made
    queued_are = ap (λ (l : List (List Row)). l ++ queued_batches (step w c).world) (sym e) ∙ law.batches

    pub still_queued : (step w c).world.state.queued ≢ 0
    still_queued z =
        omega (arith, length-batches w, length-batches (step w c).world, ap length queued_are, length-append (queued_batches w) law.made)

    pub still_front : taken_rows (step w c).world ≡ taken_rows w
    still_front =
        sym (first_queued (step w c).world still_queued)
        ∙ ap (λ (l : List (List Row)). get_or l 0 []) queued_are
        ∙ get_or-append (queued_batches w) law.made [] 0 (omega (arith, length-batches w))
        ∙ first_queued w n
