-- `byte_view::ideal_of` meets its contract: what its loops keep.
use Prim.Native.Nat.{◌≤◌, ◌*◌}
use mathlib.Core.Path.{◌≡◌}
use Rattle.words.specs.WordLaws.{Bytes}
use Rattle.rules.specs.Copies.{views_at, long_to}
use Rattle.byte_view.proofs.ideal_of.Given as goal

abbrev pub invariant-loop-i : goal.invariant-loop-i
invariant-loop-i l = Bytes l.body × (l.sum ≤ l.i * 4294967295) × (l.sum ≡ long_to (views_at l.body l.at) l.i)
