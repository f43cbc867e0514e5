-- Accepted numbers rise, so a batch whose numbers rise may be read twice.
use Rattle.std.specs.Prelude.{ℕ, ◌<◌, ◌≡◌, refl, Bool, true, false, cond}
use Rattle.std.proofs.Common.{arith}
use mathlib.Core.List.{List, [], ◌∷◌}
use Rattle.std.specs.Prelude.{Option, Some}
use Rattle.outs.specs.Outs.{Side, one, two, Event, Strip, out_on, is_above, refusal_on, refusal_for, changed, with_side, accepted}

-- the numbers rise, from above n on
pub data Rise : ℕ → List Event → Type 0 where
  ended : {n : ℕ} → Rise n []
  rises : {n : ℕ} {e : Event} {es : List Event} → n < e.number → Rise e.number es → Rise n (e ∷ es)

-- each number is above the last one before it, where there is one
pub data Above : Option ℕ → List Event → Type 0 where
  ended : {l : Option ℕ} → Above l []
  next : {l : Option ℕ} {e : Event} {es : List Event} → is_above l e.number ≡ true → Above (Some e.number) es → Above l (e ∷ es)

-- the number of an accepted event is the last one
pub last_is : (s : Strip) (e : Event) → (accepted s e).last ≡ Some e.number
unfolding accepted
last_is s e = go e.side
  where
    go : (c : Side) → (with_side s c (changed (out_on s c) e.what) e.number).last ≡ Some e.number
    go one = refl
    go two = refl

-- an accepted event is above the last one
pub above_is : (s : Strip) (e : Event) → refusal_for s e ≡ 0 → is_above s.last e.number ≡ true
unfolding refusal_for
above_is s e z = go (is_above s.last e.number) refl z
  where
    go : (b : Bool) → is_above s.last e.number ≡ b → cond b (refusal_on (out_on s e.side) e.what) 32 ≡ 0 → is_above s.last e.number ≡ true
    go true q z = q
    go false q z = absurd (omega arith)

-- ---- what is not above stays so

-- ---- read twice

-- after events whose numbers rise from above n: nothing was accepted, or n is not above the last any more
pub data Case (s t : Strip) (n : ℕ) : Type 0 where
  unchanged : t ≡ s → Case s t n
  later : is_above t.last n ≡ false → Case s t n
