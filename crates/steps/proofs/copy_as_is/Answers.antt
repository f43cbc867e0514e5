-- `steps::copy_as_is` meets its contract.
use Rattle.primitive.specs.PlacedLaws.{values_hold, begin_holds, placed_rows_lem}
use Rattle.in_progress.specs.AskLaws.{part_few}
use Rattle.in_progress.specs.RowLaws.{part_placed, rows_plain}
use Rattle.steps.specs.PartLaws.{column_record, column_part, column-width}
use Rattle.steps.proofs.copy_as_is.Goals as goal

pub record_at-r-requires : goal.record_at-r-requires
record_at-r-requires c = column_record c.requires.0

pub overflow_mul-begin : goal.overflow_mul-begin
overflow_mul-begin c = values_hold (part_placed c.requires.0) (column-width c.requires.0 c.requires.1 c.width_in-width.ensures.0)

pub overflow_add-begin : goal.overflow_add-begin
overflow_add-begin c = begin_holds (part_placed c.requires.0) (column-width c.requires.0 c.requires.1 c.width_in-width.ensures.0)

pub bitmap_bytes-size-requires : goal.bitmap_bytes-size-requires
bitmap_bytes-size-requires c = part_few c.requires.0

pub copy_rows-requires : goal.copy_rows-requires
copy_rows-requires c =
    placed_rows_lem (part_placed (column_part c.requires.0 c.record_at-r.ensures)) (column-width c.requires.0 c.requires.1 c.width_in-width.ensures.0) c.bitmap_bytes-size.ensures.0

pub returns : goal.returns
returns c =
    rows_plain (column_part c.requires.0 c.record_at-r.ensures) (column-width c.requires.0 c.requires.1 c.width_in-width.ensures.0) c.bitmap_bytes-size.ensures.0 c.copy_rows.ensures
