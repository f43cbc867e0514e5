-- What copying rows asks: they have a place in the slots, and their bits and values lie in the body.
use Rattle.std.specs.Prelude.{ℕ, ◌+◌, ◌*◌, ◌≤◌, ◌<◌, ◌^◌, ◌≡◌, true, List}
use Rattle.words.specs.Run.{read, lay}
use Rattle.bits.specs.Bits.{appended}
use Rattle.rules.specs.declared.ColumnRecord.{ColumnRecord}
use Rattle.rules.specs.Batch.{has_bitmap, bit_of}
use Rattle.primitive.specs.declared.Rows.{Rows}

-- the bits of the rows of a column from row `from` on
abbrev pub bits_of : ColumnRecord → List ℕ → ℕ → ℕ → ℕ
bits_of r body from i = bit_of r body (from + i)

-- the slots with the rows' bits laid into the bitmap, and then their values
abbrev pub rows_laid : ℕ → ℕ → ColumnRecord → List ℕ → ℕ → Rows → List ℕ → List ℕ
rows_laid begin size r body width p slots =
    lay (p.place + p.at * width) (read (r.values + p.from * width) (p.count.0 * width) body)
    (lay begin (appended (read begin size slots) p.at (bits_of r body p.from) p.count.0) slots)

-- a bitmap of `size` bytes from `begin` of the slots on has a bit for each row; where the record has a bitmap, its bits lie in the body
pub record Bitmapped (slots begin size : ℕ) (r : ColumnRecord) (body : ℕ) (p : Rows) : Type 0 where
  pub inside : begin + size ≤ slots
  pub small : begin + size < 2 ^ 40
  pub rows : p.at + p.count.0 ≤ 8 * size
  pub bits : has_bitmap r ≡ true → 8 * r.validity + r.first + (p.from + p.count.0) ≤ 8 * body

-- the values have a place in the slots, and lie in the body
pub record Valued (slots : ℕ) (r : ColumnRecord) (body width : ℕ) (p : Rows) : Type 0 where
  pub narrow : width ≤ 32
  pub small : p.place < 2 ^ 40
  pub inside : p.place + (p.at + p.count.0) * width ≤ slots
  pub values : r.values + (p.from + p.count.0) * width ≤ body
