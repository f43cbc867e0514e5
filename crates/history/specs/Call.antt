-- A history: the calls after a set-up, refused ones among them, with the rows that they accept and the batches that they take.
use Rattle.std.specs.Prelude.{ℕ, zero, suc, Bool, true, false, List, [], ◌∷◌, ◌++◌, eqb}
use Rattle.words.specs.WordLaws.{Bytes}
use Rattle.state.specs.World.{World}
use Rattle.state.specs.Rows.{Row, taken_rows}
use Rattle.rules.specs.Batch.{Batch, batch_rows}
use Rattle.rules.specs.Steps.{with_limit, in_state}
use Rattle.rules.specs.Calls.{push_call, finish_call, drop_call, register_call, let_go_call}
use Rattle.std.specs.Prelude.{Option}
use Rattle.counts.specs.declared.RowCount.{RowCount}

-- the body of a batch is of bytes, as every slice of the machine is
pub record OfBytes (b : Batch) : Type 0 where
  pub body : Bytes b.body

-- every call but another set-up
pub data Call : Type 0 where
  push : (b : Batch) → OfBytes b → Call
  finish : Call
  drop : Call
  register : (bytes : List ℕ) (capacity : ℕ) → Call
  let_go : (number : ℕ) → Call
  limit : Option RowCount → Call
  -- a read of a row, of a buffer, of a count or of the limit
  read : Call

-- the world after a call, the rows that it accepted, the batches that it took
pub record Did : Type 0 where
  pub world : World
  pub accepted : List Row
  pub taken : List (List Row)

-- the rows of a push whose number is 0: those of the batch as they are in the world of the push
abbrev pub if_done : ℕ → List Row → List Row
if_done zero rows = rows
if_done (suc n) rows = []

-- the front batch, just before a drop that drops. 01: "A row taken is what it read as just before its batch was dropped."
abbrev pub front : World → ℕ → Bool → List (List Row)
front w zero false = taken_rows w ∷ []
front w zero true = []
front w (suc n) empty = []

-- what one call does: the world, the rows and the batches by 01's calls (rules/Calls)
unfoldable pub step : World → Call → Did
step w (push b bytes) = record { world = (push_call w b).world; accepted = if_done (push_call w b).number (batch_rows w b); taken = [] }
step w finish = record { world = (finish_call w).world; accepted = []; taken = [] }
step w drop =
    record { world = (drop_call w).world; accepted = []; taken = front w (drop_call w).number (eqb w.state.queued 0) }
step w (register bytes capacity) = record { world = (register_call w bytes capacity).world; accepted = []; taken = [] }
step w (let_go k) = record { world = (let_go_call w k).world; accepted = []; taken = [] }
step w (limit l) = record { world = in_state w (with_limit w.state l); accepted = []; taken = [] }
step w read = record { world = w; accepted = []; taken = [] }

-- a whole history
unfoldable pub run : World → List Call → Did
run w [] = record { world = w; accepted = []; taken = [] }
run w (c ∷ cs) =
    let x = step w c in
    let r = run x.world cs in
    record { world = r.world; accepted = x.accepted ++ r.accepted; taken = x.taken ++ r.taken }
