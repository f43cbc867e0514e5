-- The law of one call, and that it holds of every history as soon as it holds of each call.
use Rattle.std.specs.Prelude.{◌≡◌}
use Rattle.std.proofs.Math.Path.{sym, ap}
use Rattle.std.proofs.Common.{◌∙◌}
use mathlib.Core.List.{List, [], ◌∷◌, ◌++◌, append_assoc, append-nil}
use Rattle.words.specs.WordLaws.{Bytes}
use Rattle.state.specs.World.{World}
use Rattle.state.specs.Rows.{Row, joined, queued_batches, queued_rows, buffered_rows}
use Rattle.invariant.specs.Holding.{Between}
use Rattle.invariant.specs.RowLaws.{joined-append}
use Rattle.history.specs.Call.{Call, Did, step, run}

-- what a call does: the batches taken and those still queued are those queued before and those made since; and the rows buffered and those
-- accepted are the rows of the batches made and those still buffered; slots of bytes stay so
pub record Law (w : World) (x : Did) : Type 0 where
  pub between : Between x.world
  pub made : List (List Row)
  pub batches : x.taken ++ queued_batches x.world ≡ queued_batches w ++ made
  pub rows : buffered_rows w ++ x.accepted ≡ joined made ++ buffered_rows x.world
  pub bytes : Bytes w.slots → Bytes x.world.slots

-- the rows that a world holds, in the order in which they were pushed
unfoldable pub content : World → List Row
content w = queued_rows w ++ buffered_rows w

-- the rows held and those accepted are those taken and those held then
pub law_rows : (w : World) (x : Did) → Law w x → content w ++ x.accepted ≡ joined x.taken ++ content x.world
unfolding content queued_rows
law_rows w x h =
    append_assoc (joined (queued_batches w)) (buffered_rows w) x.accepted
    ∙ ap (λ (r : List Row). joined (queued_batches w) ++ r) h.rows
    ∙ sym (append_assoc (joined (queued_batches w)) (joined h.made) (buffered_rows x.world))
    ∙ ap (λ (r : List Row). r ++ buffered_rows x.world)
    (sym (joined-append (queued_batches w) h.made) ∙ ap joined (sym h.batches) ∙ joined-append x.taken (queued_batches x.world))
    ∙ append_assoc (joined x.taken) (joined (queued_batches x.world)) (buffered_rows x.world)

-- ---- all histories

module _ (law : (w : World) (c : Call) → Between w → Law w (step w c)) where
  pub run_law : (w : World) (cs : List Call) → Between w → Law w (run w cs)
  unfolding run joined
  run_law w [] b =
      record { between = b; made = []; batches = sym (append-nil (queued_batches w)); rows = append-nil (buffered_rows w); bytes = λ z. z }
  run_law w (c ∷ cs) b =
      let x : Did = step w c in
      let h : Law w x = law w c b in
      let r : Did = run x.world cs in
      let k : Law x.world r = run_law x.world cs h.between in
      record {
        between = k.between;
        bytes = λ z. k.bytes (h.bytes z);
        made = h.made ++ k.made;
        batches =
            append_assoc x.taken r.taken (queued_batches r.world)
            ∙ ap (λ (l : List (List Row)). x.taken ++ l) k.batches
            ∙ sym (append_assoc x.taken (queued_batches x.world) k.made)
            ∙ ap (λ (l : List (List Row)). l ++ k.made) h.batches
            ∙ append_assoc (queued_batches w) h.made k.made;
        rows =
            sym (append_assoc (buffered_rows w) x.accepted r.accepted)
            ∙ ap (λ (l : List Row). l ++ r.accepted) h.rows
            ∙ append_assoc (joined h.made) (buffered_rows x.world) r.accepted
            ∙ ap (λ (l : List Row). joined h.made ++ l) k.rows
            ∙ sym (append_assoc (joined h.made) (joined k.made) (buffered_rows r.world))
            ∙ ap (λ (l : List Row). l ++ buffered_rows r.world) (sym (joined-append h.made k.made));
      }
