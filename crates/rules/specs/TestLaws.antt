-- The tests that every call begins with: one of three ways, and the numbers.
use Rattle.std.specs.Prelude.{◌≡◌, refl, ◌≢◌, Bool, true, false, [], ◌∷◌}
use Rattle.std.proofs.Math.Bool.{and-eq-true_iff}
use Rattle.std.proofs.Common.{ltb-true, leb-true}
use Rattle.state.specs.World.{World}
use Rattle.rules.specs.Ranges.{fits_set_up, state_in_range, tested}
use Rattle.rules.specs.Held.{Among, one_of}
use Rattle.rules.specs.Stays.{Counted}

-- 01: "Every call after set-up tests 1, then 14"
pub data TestedCase (w : World) : Type 0 where
  not_set_up : fits_set_up w ≡ false → tested w ≡ 1 → TestedCase w
  out_of_range : fits_set_up w ≡ true → state_in_range w ≡ false → tested w ≡ 14 → TestedCase w
  passed : fits_set_up w ≡ true → state_in_range w ≡ true → tested w ≡ 0 → TestedCase w

pub tested-case : (w : World) → TestedCase w
unfolding tested
tested-case w = go (fits_set_up w) refl (state_in_range w) refl
  where
    go : (x : Bool) → fits_set_up w ≡ x → (y : Bool) → state_in_range w ≡ y → TestedCase w
    go false p y q = not_set_up p (rw p)
    go true p false q = out_of_range p q (rw (p, q))
    go true p true q = passed p q (rw (p, q))

pub tested-number : (w : World) → tested w ≢ 0 → Among (1 ∷ 14 ∷ []) (tested w)
tested-number w h = go (tested-case w)
  where
    go : TestedCase w → Among (1 ∷ 14 ∷ []) (tested w)
    go (not_set_up p e) = rw e (one_of _ 1 tt)
    go (out_of_range p q e) = rw e (one_of _ 14 tt)
    go (passed p q e) = absurd (h e)

-- the ranges of the counts are among those of 14
pub range_counted : (w : World) → state_in_range w ≡ true → Counted w.state
unfolding state_in_range
range_counted w e =
    let a = (and-eq-true_iff _ _).0 e in
    let b = (and-eq-true_iff _ _).0 a.1 in
    let c = (and-eq-true_iff _ _).0 b.1 in
    record { buffered = ltb-true _ _ a.0; queued = leb-true _ _ b.0; place = leb-true _ _ c.0 }
