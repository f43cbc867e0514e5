-- The user's premise: what a call that is NOT refused is given is what the last such call left. A refused one may be handed anything else.
use Rattle.std.specs.Prelude.{ℕ, ◌≡◌, ◌≢◌, List, [], ◌++◌}
use Rattle.pool.specs.Register.{refusal_of}
use Rattle.state.specs.World.{World}
use Rattle.rules.specs.Calls.{push_call, finish_call, drop_call, register_call, let_go_call}
use Rattle.history.specs.Call.{Call, push, finish, drop, register, let_go, limit, read, Did, step}

-- the number that a call refuses with, and 0 where it is not refused. 01: "only the limit and its setter .. refuse nothing"; a read changes nothing, refused
-- or not
unfoldable pub refusal : World → Call → ℕ
refusal w (push b bytes) = (push_call w b).number
refusal w finish = (finish_call w).number
refusal w drop = (drop_call w).number
refusal w (register bytes capacity) = refusal_of (register_call w bytes capacity).answer
refusal w (let_go k) = (let_go_call w k).number
refusal w (limit l) = 0
refusal w read = 0

-- a turn of a history whose live world is w. A call on it; or a refused call on any other world v, lent any part of the live memory (an older state over
-- the live slots, another court's books): `live` makes up the live world from what was lent to the call, so that it is w before the call, and afterwards what
-- the call left
pub data Turn (w : World) : Did → Type 0 where
  on : (c : Call) → Turn w (step w c)
  astray : (c : Call) (v : World) (live : World → World) → live v ≡ w → refusal v c ≢ 0 → Turn w (record { world = live (step v c).world; accepted = (step v c).accepted; taken = (step v c).taken })

-- turns one behind another, each on the live world that the one before it left
pub data Turns : World → Did → Type 0 where
  none : {w : World} → Turns w (record { world = w; accepted = []; taken = [] })
  next : {w : World} {x y : Did} → Turn w x → Turns x.world y → Turns w (record { world = y.world; accepted = x.accepted ++ y.accepted; taken = x.taken ++ y.taken })
