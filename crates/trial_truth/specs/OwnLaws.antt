-- The tests of a call say that each open block is a buffer in use, and a column's own.
use Rattle.std.specs.Prelude.{ℕ, ◌<◌, ◌≡◌, refl, Bool, true, false, ◌&&◌}
use Rattle.std.proofs.Common.{sym, ◌∙◌, true≢false, arith}
use Rattle.std.proofs.Math.Decide.{dec_lt}
use borrow.Author.Tests.{eq-eqb}
use Rattle.state.specs.World.{World, column_of}
use Rattle.state.specs.Layout.{is_views}
use Rattle.rules.specs.Ranges.{is_block, has_open, tested}
use Rattle.push_safety.specs.TestedLaws.{BlockRanged, tested_block}
use Rattle.trial_truth.specs.Like.{ColumnOpens, OwnBlocks}

module _ (w : World) (e : tested w ≡ 0) where
  ranged : (c k : ℕ) → ColumnOpens w.state c k → BlockRanged w c k
  ranged c k o = tested_block w e c k o.column o.views o.block

  opens : (c k : ℕ) → ColumnOpens w.state c k → has_open w.state k c ≡ true
  unfolding has_open
  opens c k o = rw (o.views, o.block, eq-eqb k k refl)

  -- no column before c has it
  earlier : (c d k : ℕ) → ColumnOpens w.state c k → ColumnOpens w.state d k → d < c → ⊥
  earlier c d k o q l = true≢false (sym (opens d k q) ∙ (ranged c k o).first d l)

  pub tested_own : OwnBlocks w.state w.books
  tested_own = record { live = λ c k o. (ranged c k o).live; apart = λ c d k o q. go c d k o q (dec_lt c d) (dec_lt d c) }
    where
      go : (c d k : ℕ) → ColumnOpens w.state c k → ColumnOpens w.state d k → Dec (c < d) → Dec (d < c) → c ≡ d
      go c d k o q (yes l) h = absurd (earlier d c k q o l)
      go c d k o q (no l) (yes h) = absurd (earlier c d k o q h)
      go c d k o q (no l) (no h) = omega arith
