-- The ways out of route_of, and what its answer says of a push.
use Rattle.std.specs.Prelude.{ℕ, ◌≡◌, refl, Bool, true, false, ltb, eqb}
use Rattle.std.proofs.Common.{sym, ap, arith}
use borrow.Author.Tests.{eq-eqb, ne_eqb, eqb-true, eqb-false}
use Rattle.counts.specs.declared.RowCount.{RowCount}
use Rattle.state.specs.declared.BatchCoalescer.{BatchCoalescer}
use Rattle.state.specs.World.{World}
use Rattle.rules.specs.Batch.{Batch}
use Rattle.rules.specs.Steps.{bind}
use Rattle.rules.specs.Push.{finished, queued_whole, over_limit, stepped}
use Rattle.rules.specs.Turns.{coalesced}
use Rattle.rules.proofs.StepLaws.{stepped_small, stepped-whole, stepped_finishes, stepped_on}
use Rattle.routes.specs.declared.Route.{Route}
use Rattle.routes.specs.Route.{route_of}
use Rattle.std.specs.Prelude.{Option, Some, None}

-- ---- is_over

pub over_some : {limit : Option RowCount} {most : RowCount} (rows : ℕ) → limit ≡ Some most → ltb most.0 rows ≡ over_limit limit rows
over_some rows e = ap (λ (l : Option RowCount). over_limit l rows) (sym e)

pub over_none : {limit : Option RowCount} (rows : ℕ) → limit ≡ None → false ≡ over_limit limit rows
over_none rows e = ap (λ (l : Option RowCount). over_limit l rows) (sym e)

-- ---- route_of

module _ (s : BatchCoalescer) (rows : ℕ) {p : Bool} (e : p ≡ over_limit s.limit rows) where
  pub route_small : p ≡ false → Route.Coalesce ≡ route_of s rows
  unfolding route_of
  route_small x = rw (← e, x)

  pub route_whole : p ≡ true → s.buffered.0 ≡ 0 → Route.Whole ≡ route_of s rows
  unfolding route_of
  route_whole x z = rw (← e, x, eq-eqb s.buffered.0 0 z)

  module _ {q : Bool} (f : q ≡ over_limit s.limit s.buffered.0) where
    pub route_first : p ≡ true → (s.buffered.0 ≡ 0 → ⊥) → q ≡ true → Route.FinishFirst ≡ route_of s rows
    unfolding route_of
    route_first x z y = rw (← e, x, ne_eqb s.buffered.0 0 z, ← f, y)

    pub route_on : p ≡ true → (s.buffered.0 ≡ 0 → ⊥) → q ≡ false → Route.Coalesce ≡ route_of s rows
    unfolding route_of
    route_on x z y = rw (← e, x, ne_eqb s.buffered.0 0 z, ← f, y)

-- what the answer says of a push
data RouteTold (w : World) (b : Batch) : Type 0 where
  whole : route_of w.state b.rows ≡ Route.Whole → stepped w b ≡ queued_whole w b → RouteTold w b
  first : route_of w.state b.rows ≡ Route.FinishFirst → stepped w b ≡ bind (finished w) (λ v. queued_whole v b) → RouteTold w b
  on : route_of w.state b.rows ≡ Route.Coalesce → stepped w b ≡ coalesced b.rows w w b 0 → RouteTold w b

told : (w : World) (b : Batch) → RouteTold w b
told w b = go (over_limit w.state.limit b.rows) refl (eqb w.state.buffered.0 0) refl (over_limit w.state.limit w.state.buffered.0) refl
  where
    go : (p : Bool) → over_limit w.state.limit b.rows ≡ p → (z : Bool) → eqb w.state.buffered.0 0 ≡ z → (q : Bool) → over_limit w.state.limit w.state.buffered.0 ≡ q → RouteTold w b
    go false e z f q g = on (sym (route_small w.state b.rows (sym e) refl)) (stepped_small w b e)
    go true e true f q g =
        whole (sym (route_whole w.state b.rows (sym e) refl (eqb-true _ _ f))) (stepped-whole w b e (eqb-true _ _ f))
    go true e false f true g =
        first (sym (route_first w.state b.rows (sym e) (sym g) refl (eqb-false _ _ f) refl)) (stepped_finishes w b e (eqb-false _ _ f) g)
    go true e false f false g =
        on (sym (route_on w.state b.rows (sym e) (sym g) refl (eqb-false _ _ f) refl)) (stepped_on w b e (eqb-false _ _ f) g)

module _ (w : World) (b : Batch) {r : Route} (e : r ≡ route_of w.state b.rows) where
  pub route_says_whole : r ≡ Route.Whole → stepped w b ≡ queued_whole w b
  route_says_whole q = go (told w b)
    where
      go : RouteTold w b → stepped w b ≡ queued_whole w b
      go (whole p s) = s
      go (first p s) = let z : ◌≡◌ {A = ℕ} 0 1 = cc in absurd (omega arith)
      go (on p s) = let z : ◌≡◌ {A = ℕ} 0 1 = cc in absurd (omega arith)

  pub route_says_first : r ≡ Route.FinishFirst → stepped w b ≡ bind (finished w) (λ v. queued_whole v b)
  route_says_first q = go (told w b)
    where
      go : RouteTold w b → stepped w b ≡ bind (finished w) (λ v. queued_whole v b)
      go (first p s) = s
      go (whole p s) = let z : ◌≡◌ {A = ℕ} 0 1 = cc in absurd (omega arith)
      go (on p s) = let z : ◌≡◌ {A = ℕ} 0 1 = cc in absurd (omega arith)

  pub route_says_on : r ≡ Route.Coalesce → stepped w b ≡ coalesced b.rows w w b 0
  route_says_on q = go (told w b)
    where
      go : RouteTold w b → stepped w b ≡ coalesced b.rows w w b 0
      go (on p s) = s
      go (whole p s) = let z : ◌≡◌ {A = ℕ} 0 1 = cc in absurd (omega arith)
      go (first p s) = let z : ◌≡◌ {A = ℕ} 0 1 = cc in absurd (omega arith)
