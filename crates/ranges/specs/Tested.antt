-- The tests of 1 and 14, in the pieces that the code has; and what they say of the lengths of the memories.
use Rattle.std.specs.Prelude.{ℕ, ◌+◌, ◌*◌, ◌≡◌, Bool, ◌&&◌, not, List, ltb, eqb}
use Rattle.search.specs.Every.{every}
use Rattle.words.specs.Word.{word32}
use Rattle.kinds.specs.Kind.{width_at, is_view}
use Rattle.state.specs.declared.BatchCoalescer.{BatchCoalescer}
use Rattle.state.specs.declared.Column.{Column}
use Rattle.state.specs.World.{column_of}
use Rattle.state.specs.Layout.{slots_length, books_length}
use Rattle.layout.specs.Few.{Few}
use Rattle.rules.specs.Ranges.{is_kind, in_bounds, is_block, has_open}

-- every column is of a kind in the table
unfoldable pub kinds_known : BatchCoalescer → Bool
kinds_known s = every (λ c. is_kind (width_at (column_of s c).kind)) s.columns

-- 1, of the lengths of slots, pool and books
unfoldable pub fits_lengths : BatchCoalescer → ℕ → ℕ → ℕ → Bool
fits_lengths s slots pool books =
    in_bounds s && (eqb slots (slots_length s) && (eqb pool s.pool.0 && eqb books (books_length s)))

-- a column of views has block k open; and that column d has it not
unfoldable pub opens_in : Column → ℕ → Bool
opens_in column k = is_view column.kind && is_block k column.block

unfoldable pub not_open : BatchCoalescer → ℕ → ℕ → Bool
not_open s k d = not (has_open s k d)

-- the first `count` words from a place on are below n
unfoldable pub below : List ℕ → ℕ → ℕ → ℕ → Bool
below l at count n = every (λ i. ltb (word32 l (at + 4 * i)) n) count

-- the memories that the tests of 14 read have their lengths
pub record Sized (s : BatchCoalescer) (slots books : ℕ) : Type 0 where
  pub few : Few s
  pub slots_are : slots ≡ slots_length s
  pub books_are : books ≡ books_length s
