-- What follows of every history: no row is shown twice, a queued row rests until its batch is dropped, no batch overtakes rows pushed before it.
use Rattle.std.specs.Prelude.{ℕ, zero, suc, ◌+◌, ◌<◌, ◌≡◌, length}
use Rattle.std.proofs.Math.Path.{sym, ap}
use Rattle.std.proofs.Common.{◌∙◌, arith, get_or-append-add}
use mathlib.Core.List.{List, [], ◌∷◌, ◌++◌, append_assoc}
use Rattle.std.proofs.Math.ListN.{get_or-append}
use Rattle.state.specs.World.{World}
use Rattle.state.specs.Rows.{Row, joined, queued_batches, queued_rows, buffered_rows}
use Rattle.rules.specs.Batch.{Batch, batch_rows}
use Rattle.rules.specs.Calls.{Wanted, set_up_call, push_call}
use Rattle.invariant.specs.Holding.{Between}
use Rattle.invariant.specs.RowLaws.{joined-append, length-batches}
use Rattle.history.specs.Call.{OfBytes, Call, push, if_done, step, run}
use Rattle.history.proofs.CallLaws.{call_law}
use Rattle.history.proofs.History.{histories, did, in_order_lem}
use Rattle.history.specs.Corollaries.{Behind, batch_at, before, row_at}

-- ---- a row has one place

-- row i of batch k is the row behind those of the batches before it
pub row_placed : (bs : List (List Row)) (rest : List Row) (k i : ℕ) → k < length bs → i < length (batch_at bs k) → row_at (joined bs ++ rest) (before bs k + i) ≡ row_at (batch_at bs k) i
unfolding joined before
row_placed [] rest k i h l = absurd (omega arith)
row_placed (b ∷ bs) rest zero i h l =
    let e : 0 + i ≡ i = omega arith in
    rw (append_assoc b (joined bs) rest, e) (get_or-append b (joined bs ++ rest) [] i l)
row_placed (b ∷ bs) rest (suc k) i h l =
    let e : length b + before bs k + i ≡ length b + (before bs k + i) = omega arith in
    rw (append_assoc b (joined bs) rest, e)
    (get_or-append-add b (joined bs ++ rest) (before bs k + i) [] ∙ row_placed bs rest k i (omega arith) l)

-- and a later batch begins behind it
pub row_before : (bs : List (List Row)) (k j i : ℕ) → k < j → j < length bs → i < length (batch_at bs k) → before bs k + i < before bs j
unfolding before
row_before [] k j i h l m = absurd (omega arith)
row_before (b ∷ bs) k zero i h l m = absurd (omega arith)
row_before (b ∷ bs) zero (suc j) i h l m = omega arith
row_before (b ∷ bs) (suc k) (suc j) i h l m = omega (arith, row_before bs k j i (omega arith) (omega arith) m)

-- of a history: the batches, those taken first
module _ (a : Wanted) (slots pool books : List ℕ) (ok : (set_up_call a slots pool books).number ≡ 0) (cs : List Call) where
  abbrev pub batches : List (List Row)
  batches = (did a slots pool books ok cs).taken ++ queued_batches (did a slots pool books ok cs).world

  -- the rows accepted are those of the batches, then those buffered
  pub accepted_are : (did a slots pool books ok cs).accepted ≡ joined batches ++ buffered_rows (did a slots pool books ok cs).world
  unfolding queued_rows
  accepted_are =
      in_order_lem a slots pool books ok cs
      ∙ sym (append_assoc (joined (did a slots pool books ok cs).taken) (joined (queued_batches (did a slots pool books ok cs).world)) (buffered_rows (did a slots pool books ok cs).world))
      ∙ ap (λ (l : List Row). l ++ buffered_rows (did a slots pool books ok cs).world) (sym (joined-append (did a slots pool books ok cs).taken (queued_batches (did a slots pool books ok cs).world)))

  -- each row of a batch is one accepted row
  pub shown_once : (k i : ℕ) → k < length batches → i < length (batch_at batches k) → row_at (did a slots pool books ok cs).accepted (before batches k + i) ≡ row_at (batch_at batches k) i
  shown_once k i h l = rw accepted_are (row_placed batches (buffered_rows (did a slots pool books ok cs).world) k i h l)

  -- and two batches show no accepted row both: the rows of the later one stand behind
  pub never_twice : (k j i h : ℕ) → k < j → j < length batches → i < length (batch_at batches k) → before batches k + i < before batches j + h
  never_twice k j i h l m n = omega (arith, row_before batches k j i l m n)

-- ---- a queued row rests

-- whatever is pushed, registered or let go meanwhile: batch k of those queued is batch k of those taken since and those still queued
pub rests_queued : (w : World) (g : Between w) (cs : List Call) (k : ℕ) → k < w.state.queued → batch_at ((run w cs).taken ++ queued_batches (run w cs).world) k ≡ batch_at (queued_batches w) k
rests_queued w g cs k h =
    ap (λ (l : List (List Row)). batch_at l k) (histories w g cs).batches
    ∙ get_or-append (queued_batches w) (histories w g cs).made [] k (omega (arith, length-batches w))

-- before any batch is taken its place is the same too
pub rests_in_place : (w : World) (g : Between w) (cs : List Call) (k : ℕ) → (run w cs).taken ≡ [] → k < w.state.queued → batch_at (queued_batches (run w cs).world) k ≡ batch_at (queued_batches w) k
rests_in_place w g cs k e h = ap (λ (l : List (List Row)). batch_at (l ++ queued_batches (run w cs).world) k) (sym e) ∙ rests_queued w g cs k h

-- ---- no batch overtakes

pub never_ahead : (w : World) (b : Batch) → Between w → OfBytes b → (push_call w b).number ≡ 0 → Behind w b (push_call w b).world
unfolding step
never_ahead w b g bytes e =
    let h = call_law w (push b bytes) g in
    let r : joined h.made ++ buffered_rows (push_call w b).world ≡ buffered_rows w ++ batch_rows w b = sym h.rows ∙ ap (λ (n : ℕ). buffered_rows w ++ if_done n (batch_rows w b)) e in
    record { made = h.made; batches = h.batches; rows = r }
