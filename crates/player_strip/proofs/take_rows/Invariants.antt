-- `player_strip::take_rows` meets its contract: what its loops keep.
use Rattle.player_strip.specs.AlongLaws.{Along}
use Rattle.words.specs.WordLaws.{Bytes}
use lib.ListN.{length}
use mathlib.Core.Path.{◌≡◌}
use Rattle.player_strip.proofs.take_rows.Given as goal

abbrev pub invariant-loop-i : goal.invariant-loop-i
invariant-loop-i l = (length l.strip ≡ length l.initial.strip) × (length l.numbers ≡ length l.initial.numbers) × Along l.slots l.pool l.books l.p l.initial.strip l.initial.numbers l.strip l.numbers l.i × Bytes l.slots
