-- `match_rows::is_whole_at` meets its contract.
use Rattle.match_rows.specs.ExitLaws.{bit_room, whole_is}
use native.Mathlib.Omega.{arith}
use Rattle.match_rows.proofs.is_whole_at.Goals as goal

pub bit_at-name-requires : goal.bit_at-name-requires
bit_at-name-requires c = (bit_room _ _ _ _ c.requires.0.names_in_lem c.requires.1, omega (arith, c.requires.0.few))

pub returns : goal.returns
returns c = whole_is _ _ _ c.bit_at-number.ensures c.bit_at-side.ensures c.bit_at-event.ensures c.bit_at-name.ensures
