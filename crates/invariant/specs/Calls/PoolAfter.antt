-- A buffer that the caller holds: what the calls leave of it, and of the pool.
use Rattle.std.specs.Prelude.{ℕ, ◌≡◌, true}
use Rattle.std.proofs.Math.ListN.{length}
use Rattle.books.specs.Entry.{entry_of}
use Rattle.sound.specs.Sound.{filled_bytes}
use Rattle.pool.specs.Register.{is_held}
use Rattle.state.specs.World.{World}

-- number k is held still, lies where it lay, as long and with the same room, and its bytes are those that it had
pub record KeepsHeld (w v : World) (k : ℕ) : Type 0 where
  pub held : is_held v.books k ≡ true
  pub start : (entry_of v.books k).start ≡ (entry_of w.books k).start
  pub capacity : (entry_of v.books k).capacity.0 ≡ (entry_of w.books k).capacity.0
  pub length : (entry_of v.books k).length.0 ≡ (entry_of w.books k).length.0
  pub bytes : filled_bytes v.books v.pool k ≡ filled_bytes w.books w.pool k
