-- `list_changes::list_all` meets its contract: what its loop keeps.
use mathlib.Core.Path.{◌≡◌}
use Rattle.listings.specs.Listing.{over_list, listed_one}
use Rattle.list_changes.proofs.list_all.Given as goal

abbrev pub invariant-loop-i : goal.invariant-loop-i
invariant-loop-i l = l.books ≡ over_list listed_one l.initial.books l.list l.i
