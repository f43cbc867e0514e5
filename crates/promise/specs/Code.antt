-- A history of the code: what each function made, as its contract says it, and the rows that it accepted and the batches that it took.
use Rattle.std.specs.Prelude.{ℕ, ◌≡◌, ◌≢◌, List, [], ◌∷◌, ◌++◌, eqb}
use Rattle.pool.specs.Register.{refusal_of}
use Rattle.state.specs.declared.BatchCoalescer.{BatchCoalescer}
use Rattle.state.specs.World.{World, world}
use Rattle.rules.specs.declared.Step.{Step}
use Rattle.rules.specs.Batch.{Batch, batch_rows}
use Rattle.rules.specs.Steps.{with_limit}
use Rattle.rules.specs.Calls.{push_call, finish_call, drop_call, register_call, let_go_call}
use Rattle.finishing.specs.Finish.{answered}
use Rattle.completed.specs.declared.Dropped.{Dropped}
use Rattle.completed.specs.Drop.{Drops}
use Rattle.buffers.specs.Buffers.{RegistersCall, LetsGoCall}
use Rattle.history.specs.Call.{OfBytes, Call, push, finish, drop, register, let_go, limit, read, Did, if_done, front}
use Rattle.std.specs.Prelude.{Option, Result}
use Rattle.counts.specs.declared.BufferNumber.{BufferNumber}
use Rattle.counts.specs.declared.RowCount.{RowCount}

-- a call of the code on a world, and the number that it answered: 0 or a refusal. The memories that are not lent to be changed are those before it
pub data Made (w : World) : Call → ℕ → Did → Type 0 where
  -- push_batch
  by_push : {b : Batch} (bytes : OfBytes b) {r : Step} {slots pool books : List ℕ} → answered r slots pool books ≡ push_call w b → Made w (push b bytes) r.number (record { world = world r.state slots pool books; accepted = if_done r.number (batch_rows w b); taken = [] })
  -- finish_buffered_batch
  by_finish : {r : Step} {slots books : List ℕ} → answered r slots w.pool books ≡ finish_call w → Made w finish r.number (record { world = world r.state slots w.pool books; accepted = []; taken = [] })
  -- next_completed_batch
  by_drop : {r : Dropped} {books : List ℕ} → Drops (drop_call w) books r → Made w drop r.number (record { world = world r.state w.slots w.pool books; accepted = []; taken = front w r.number (eqb w.state.queued 0) })
  -- register_buffer
  by_register : {bytes : List ℕ} {capacity : ℕ} {r : Result BufferNumber ℕ} {pool books : List ℕ} → RegistersCall (register_call w bytes capacity) pool books r → Made w (register bytes capacity) (refusal_of r) (record { world = world w.state w.slots pool books; accepted = []; taken = [] })
  -- let_go
  by_let_go : {k r : ℕ} {books : List ℕ} → LetsGoCall (let_go_call w k) books r → Made w (let_go k) r (record { world = world w.state w.slots w.pool books; accepted = []; taken = [] })
  -- set_biggest_coalesce_batch_size
  by_limit : {l : Option RowCount} {s : BatchCoalescer} → s ≡ with_limit w.state l → Made w (limit l) 0 (record { world = world s w.slots w.pool w.books; accepted = []; taken = [] })
  -- read_row, read_buffer, buffer_refusal, and the reads of the state: nothing is lent to be changed
  by_read : Made w read 0 (record { world = w; accepted = []; taken = [] })

-- calls one behind another, each on what the one before it left; and among them any that the code refused and that were handed any other world v, lent any
-- part of the live memory: `live` makes up the live world from what was lent
pub data Makes : World → List Call → Did → Type 0 where
  none : {w : World} → Makes w [] (record { world = w; accepted = []; taken = [] })
  next : {w : World} {c : Call} {cs : List Call} {n : ℕ} {x y : Did} → Made w c n x → Makes x.world cs y → Makes w (c ∷ cs) (record { world = y.world; accepted = x.accepted ++ y.accepted; taken = x.taken ++ y.taken })
  astray : {w v : World} {c : Call} {cs : List Call} {n : ℕ} {x y : Did} (live : World → World) → live v ≡ w → Made v c n x → n ≢ 0 → Makes (live x.world) cs y → Makes w cs (record { world = y.world; accepted = x.accepted ++ y.accepted; taken = x.taken ++ y.taken })
