-- The pool over a history: a buffer that the caller holds keeps its bytes until it is let go, and bytes change only where they are registered or
-- copied.
use Rattle.std.specs.Prelude.{ℕ, ◌<◌, ◌≡◌, ◌≢◌, false, List, [], ◌∷◌, get_or}
use Rattle.books.specs.Entry.{entry_of, is_free}
use Rattle.state.specs.World.{World}
use Rattle.invariant.specs.Holding.{Owns, Unfilled}
use Rattle.history.specs.Call.{Call, let_go}

-- a byte of a buffer that is live is as it was, in an open block a filled one; and so is a byte that no buffer fills then
pub record PoolChanges (w v : World) : Type 0 where
  pub owned : (k x : ℕ) → k < w.state.numbers → is_free (entry_of w.books k) ≡ false → Owns w k x → get_or v.pool x 0 ≡ get_or w.pool x 0
  pub unfilled : (x : ℕ) → Unfilled v x → get_or v.pool x 0 ≡ get_or w.pool x 0

-- no call of these lets number k go
abbrev pub NeverLetGo : ℕ → List Call → Type 0
NeverLetGo k [] = Unit
NeverLetGo k (c ∷ cs) = (c ≢ let_go k) × NeverLetGo k cs
