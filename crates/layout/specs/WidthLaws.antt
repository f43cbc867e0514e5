-- No row is wider than 32 bytes, whatever number stands for a kind.
use Rattle.std.specs.Prelude.{ℕ, ◌≤◌, ◌<◌, ◌≡◌, refl, true, leb}
use Rattle.std.proofs.Common.{arith, leb-true}
use Rattle.std.proofs.Math.Decide.{dec_lt}
use Rattle.search.specs.Every.{every, every-says}
use Rattle.kinds.specs.Kind.{kind_of, width_at}
use Rattle.kinds.specs.KindLaws.{no_kind}
use Rattle.state.specs.declared.BatchCoalescer.{BatchCoalescer}
use Rattle.state.specs.World.{column_of}
use Rattle.state.specs.Layout.{bytes_in, width_of}

-- no kind is wider than 32 bytes: seen by looking at every number of the table
in_table : every (λ n. leb (bytes_in (width_at n)) 32) 20 ≡ true
unfolding every width_at kind_of
in_table = refl

pub kind_bound : (n : ℕ) → bytes_in (width_at n) ≤ 32
unfolding width_at
kind_bound n = go (dec_lt n 20)
  where
    go : Dec (n < 20) → bytes_in (width_at n) ≤ 32
    go (yes d) = leb-true (bytes_in (width_at n)) 32 (every-says (λ m. leb (bytes_in (width_at m)) 32) 20 in_table n d)
    go (no d) = rw (no_kind n (omega arith)) (omega arith)

pub width_bound : (s : BatchCoalescer) (c : ℕ) → width_of s c ≤ 32
unfolding width_of
width_bound s c = kind_bound (column_of s c).kind
