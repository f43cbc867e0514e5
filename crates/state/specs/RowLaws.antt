-- Which buffer an index of a slot means: one of the list, the open block behind it, or none.
use Rattle.std.specs.Prelude.{ℕ, ◌<◌, ◌≡◌, Bool, eqb}
use Rattle.std.proofs.Math.Path.{refl}
use Rattle.std.proofs.Math.Bool.{true, false, cond}
use Rattle.std.proofs.Common.{true≢false, arith}
use mathlib.Core.List.{[]}
use borrow.Author.Tests.{lt-ltb, le-ltb, eq-eqb, ne_eqb}
use Rattle.sound.specs.Sound.{filled_bytes}
use Rattle.state.specs.World.{World, column_of}
use Rattle.state.specs.Layout.{list_length}
use Rattle.state.specs.Rows.{listed_at, open_bytes, buffer_at}

module _ (w : World) (slot c : ℕ) where
  -- no buffer at an index past the list's length
  pub buffer_past : (i : ℕ) → list_length w slot c < i → buffer_at w slot c i ≡ []
  unfolding buffer_at
  buffer_past i h = rw (le-ltb i (list_length w slot c) (omega arith)) (none (eqb i (list_length w slot c)) (ne_eqb i (list_length w slot c) (omega arith)))
    where
      none : (b : Bool) → b ≡ false → cond b (cond (eqb slot w.state.place) (open_bytes w (column_of w.state c).block) []) [] ≡ []
      none true e = absurd (true≢false e)
      none false e = refl

  -- at one equal to it, in the slot being filled, the open block
  pub buffer_open : slot ≡ w.state.place → buffer_at w slot c (list_length w slot c) ≡ open_bytes w (column_of w.state c).block
  unfolding buffer_at
  buffer_open e =
      rw (le-ltb (list_length w slot c) (list_length w slot c) (omega arith), eq-eqb (list_length w slot c) (list_length w slot c) refl, eq-eqb slot w.state.place e)

  -- below it the one that is listed there
  pub buffer_listed : (i : ℕ) → i < list_length w slot c → buffer_at w slot c i ≡ filled_bytes w.books w.pool (listed_at w slot c i)
  unfolding buffer_at
  buffer_listed i h = rw (lt-ltb i (list_length w slot c) h)
