-- `player_strip::read_front` meets its contract.
use native.Mathlib.Omega.{arith}
use Rattle.player_strip.specs.FrontLaws.{count_in, front_reads}
use Rattle.player_strip.proofs.read_front.Goals as goal

pub take_rows-requires : goal.take_rows-requires
take_rows-requires c = (c.front_places-p.ensures.1, count_in _ _ _ c.requires.0 c.front_places-p.ensures.0 c.front_rows-rows.ensures, omega (arith, c.requires.3, c.front_rows-rows.ensures), c.requires.2)

pub returns : goal.returns
returns c = front_reads _ _ _ c.requires.0 c.requires.1 _ _ _ c.front_places-p.ensures.0 c.front_rows-rows.ensures c.take_rows.ensures.0 c.take_rows.ensures.1
