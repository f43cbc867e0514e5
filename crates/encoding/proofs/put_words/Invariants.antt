-- `encoding::put_words` meets its contract: what its loop keeps.
use Prim.Native.Nat.{◌+◌, ◌*◌}
use mathlib.Core.List.{◌++◌}
use mathlib.Core.Path.{◌≡◌}
use lib.ListN.{length, take}
use Rattle.codes.specs.Code.{bytes_of}
use Rattle.encoding.proofs.put_words.Given as goal

abbrev pub invariant-loop-i : goal.invariant-loop-i
invariant-loop-i g l = (l.w-items ≡ l.fn.ws) × (length l.bytes ≡ length l.initial.bytes) × (take (l.at + 4 * l.i) l.bytes ≡ take l.at l.initial.bytes ++ bytes_of (take l.i l.w-items))
