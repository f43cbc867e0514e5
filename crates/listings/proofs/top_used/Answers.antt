-- `listings::top_used` meets its contract.
use Prim.Native.Nat.{◌+◌, ◌-◌}
use mathlib.Core.Path.{◌≡◌}
use native.Mathlib.Omega.{arith}
use borrow.Author.Rules.{rules}
use Rattle.listings.specs.ListingLaws.{settled-free, settled_here, settled-none}
use Rattle.listings.proofs.top_used.Goals as goal

pub loop-below-preserved : goal.loop-below-preserved
loop-below-preserved c = search (settled-free, rules)

pub returns-then-not-is_free : goal.returns-then-not-is_free
returns-then-not-is_free c =
    let e : c.loop-below.below - 1 + 1 ≡ c.loop-below.below = omega arith in rw e (search (settled_here, rules))

pub returns : goal.returns
returns c = search (settled-none, rules)
