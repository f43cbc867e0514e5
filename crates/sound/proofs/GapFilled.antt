-- What is written in a gap of the pool leaves the filled bytes.
use Rattle.std.specs.Prelude.{ℕ, ◌+◌, ◌≤◌, ◌<◌, ◌≡◌, List, length}
use Rattle.words.specs.Frame.{Framed}
use Rattle.books.specs.GapLaws.{GapAt}
use Rattle.sound.specs.Sound.{Sound, filled_bytes}
use Rattle.sound.proofs.Filled.{clear_filled}

module _ {s : List ℕ} {n p : ℕ} {count : ℕ → ℕ} (w : Sound s n p count) where
  -- bytes written in a gap
  pub gap_filled : (t size : ℕ) {pool after : List ℕ} → p ≤ length pool → Framed t (t + size) pool after → GapAt s p size t → (k : ℕ) → k < n → filled_bytes s after k ≡ filled_bytes s pool k
  gap_filled t size l f g = clear_filled w t size l f g.clear
