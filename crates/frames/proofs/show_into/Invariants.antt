-- `frames::show_into` meets its contract: what its loops keep.
use mathlib.Core.Path.{◌≡◌}
use lib.ListN.{length}
use Rattle.words.specs.RunLaws.{copied}
use Rattle.frames.specs.Text.{shown_name}
use Rattle.frames.specs.ShownLaws.{Showing}
use Rattle.frames.proofs.show_into.Given as goal

abbrev pub invariant-loop-i : goal.invariant-loop-i
invariant-loop-i l =
    (length l.part ≡ length l.initial.part) × (l.part ≡ copied l.initial.part (shown_name l.name) l.i) × Showing l.name l.before l.i
