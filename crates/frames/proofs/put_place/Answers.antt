-- `frames::put_place` meets its contract.
use borrow.Author.Rules.{rules}
use native.Mathlib.Omega.{arith}
use Rattle.outs.specs.SideLaws.{coded-length}
use Rattle.frames.specs.BlockLaws.{name_short, place-taken, place-free}
use Rattle.frames.proofs.put_place.Goals as goal

pub get32-count-requires : goal.get32-count-requires
get32-count-requires c = omega (arith, coded-length _ c.requires.0)

pub put_player-requires : goal.put_player-requires
put_player-requires c = (name_short _ c.requires.0 c.args.i c.get32-count.ensures (omega arith) c.name_at.ensures, search rules)

pub returns-then-i-count : goal.returns-then-i-count
returns-then-i-count c = search (place-taken, rules)

pub returns-else-i-count : goal.returns-else-i-count
returns-else-i-count c = search (place-free, rules)
