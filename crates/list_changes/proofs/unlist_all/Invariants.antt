-- `list_changes::unlist_all` meets its contract: what its loop keeps.
use Prim.Native.Nat.{◌≤◌}
use mathlib.Core.Path.{◌≡◌}
use Rattle.books.specs.Entry.{used_of}
use Rattle.listings.specs.Listing.{over_list, unlisted_one}
use Rattle.list_changes.proofs.unlist_all.Given as goal

abbrev pub invariant-loop-i : goal.invariant-loop-i
invariant-loop-i l = (used_of l.books ≤ l.n) × (l.books ≡ over_list unlisted_one l.initial.books l.list l.i)
