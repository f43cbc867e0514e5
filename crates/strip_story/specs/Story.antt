-- THE PLAYER STRIP OVER EVERY HISTORY, 02, K6. A history: a set-up of any columns, bounds and target that is not refused, then any calls, refused ones among
-- them, refused ones on other memory too. Its strip is worked out from the batches that it took, one behind another.
use Rattle.std.specs.Prelude.{ℕ, ◌≡◌, true, List, ◌++◌}
use Rattle.state.specs.Rows.{Row, joined, queued_rows, buffered_rows}
use Rattle.rules.specs.Calls.{Wanted, set_up_call, is_empty}
use Rattle.history.specs.Call.{Did}
use Rattle.history.specs.Stray.{Turns}
use Rattle.outs.specs.Outs.{Strip, empty}
use Rattle.strip_story.specs.StripAfter.{strip_after}

pub record History : Type 0 where
  pub asked : Wanted
  pub slots : List ℕ
  pub pool : List ℕ
  pub books : List ℕ
  pub begun : (set_up_call asked slots pool books).number ≡ 0
  pub did : Did
  pub turns : Turns (set_up_call asked slots pool books).world did

-- the strip worked out batch by batch from the batches taken
abbrev pub strip : History → Strip
strip h = strip_after empty h.did.taken

-- the rows taken, and the rows that wait: queued, then buffered
abbrev pub rows : History → List Row
rows h = joined h.did.taken

abbrev pub waiting : History → List Row
waiting h = queued_rows h.did.world ++ buffered_rows h.did.world

-- is_empty answers so: nothing waits
abbrev pub Whole : History → Type 0
Whole h = is_empty h.did.world.state ≡ true
