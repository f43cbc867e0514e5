-- The code's event as the definition has it, and where the code finds a side's bytes.
use Rattle.std.specs.Prelude.{ℕ, Bool, true}
use Rattle.outs.specs.Outs.{Side, one, two, What, out, revive, Event, is_name}
use Rattle.outs.specs.declared.Side as coded_side
use Rattle.outs.specs.declared.Side.TheVariants.{One, Two}
use Rattle.outs.specs.declared.What as coded_what
use Rattle.outs.specs.declared.What.TheVariants.{Out, Revive}
use Rattle.outs.specs.declared.Event as coded_event

-- a side
abbrev pub seen_side : coded_side.Side → Side
seen_side One = one
seen_side Two = two

-- where its 480 bytes stand in a strip: behind the last number, and behind side 1
abbrev pub start_of : coded_side.Side → ℕ
start_of One = 12
start_of Two = 492

-- what happens: a name is its bytes
abbrev pub seen_what : coded_what.What → What
seen_what (Out name) = out name.now
seen_what Revive = revive

-- an event
abbrev pub seen : coded_event.Event → Event
seen e = record { number = e.number; side = seen_side e.side; what = seen_what e.what }

-- who goes out has a name of 1 to 64 bytes
abbrev pub named : What → Bool
named (out name) = is_name name
named revive = true
