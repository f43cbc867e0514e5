-- The parts of a read that stand in functions of their own.
use Rattle.std.specs.Prelude.{ℕ, cond, eqb}
use Rattle.bits.specs.Bits.{bits_from}
use Rattle.state.specs.declared.RowAnswer.{RowAnswer}
use Rattle.state.specs.World.{World}
use Rattle.state.specs.Layout.{bitmap_place}
use Rattle.state.specs.Rows.{front_slot}
use Rattle.rules.specs.Calls.{value_answer, is_row}

-- row i of column c of a slot
unfoldable pub row_answer : World → ℕ → ℕ → ℕ → RowAnswer
row_answer w slot c i =
    cond (eqb (bits_from w.slots (bitmap_place w.state slot c) 0 i) 0) RowAnswer.Null (value_answer w slot c i)

-- `read_row` behind the tests
unfoldable pub front_row : World → ℕ → ℕ → RowAnswer
front_row w c i = cond (is_row w c i) (row_answer w (front_slot w) c i) (RowAnswer.Refused 13)
