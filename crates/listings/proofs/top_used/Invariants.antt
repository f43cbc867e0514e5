-- `listings::top_used` meets its contract: what its loop keeps.
use mathlib.Core.Path.{◌≡◌}
use Rattle.listings.specs.Listing.{settled}
use Rattle.listings.proofs.top_used.Given as goal

abbrev pub invariant-loop-below : goal.invariant-loop-below
invariant-loop-below l = settled l.books l.used ≡ settled l.books l.below
