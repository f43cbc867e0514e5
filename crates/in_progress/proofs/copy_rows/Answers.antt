-- `in_progress::copy_rows` meets its contract.
use borrow.Author.Rules.{rules}
use Rattle.primitive.specs.PlacedLaws.{values_hold, begin_holds, placed_bits, placed_rows_lem}
use Rattle.in_progress.specs.RowLaws.{part_placed, rows-copied, rows_any, rows_attached, rows_views, rows-ideal, rows_compacted}
use Rattle.in_progress.specs.AskLaws.{part_column, part_few}
use Rattle.in_progress.proofs.copy_rows.Goals as goal

pub width_of-width-requires : goal.width_of-width-requires
width_of-width-requires c = part_column c.requires.0

pub overflow_mul-begin : goal.overflow_mul-begin
overflow_mul-begin c = values_hold (part_placed c.requires.0) c.width_of-width.ensures.0

pub overflow_add-begin : goal.overflow_add-begin
overflow_add-begin c = begin_holds (part_placed c.requires.0) c.width_of-width.ensures.0

pub bitmap_bytes-size-requires : goal.bitmap_bytes-size-requires
bitmap_bytes-size-requires c = part_few c.requires.0

pub copy_rows-requires : goal.copy_rows-requires
copy_rows-requires c = placed_rows_lem (part_placed c.requires.0) c.width_of-width.ensures.0 c.bitmap_bytes-size.ensures.0

pub copy_validity-requires : goal.copy_validity-requires
copy_validity-requires c = placed_bits (part_placed c.requires.0) c.width_of-width.ensures.0 c.bitmap_bytes-size.ensures.0

pub attach-requires : goal.attach-requires
attach-requires c = rows_any c.requires.0 c.width_of-width.ensures.0 c.bitmap_bytes-size.ensures.0 c.copy_validity.ensures c.requires.1 (search rules)

pub copy_validity-requires-in-Compacted : goal.copy_validity-requires-in-Compacted
copy_validity-requires-in-Compacted c = placed_bits (part_placed c.requires.0) c.width_of-width.ensures.0 c.bitmap_bytes-size.ensures.0

pub append_views_and_copy_strings-requires : goal.append_views_and_copy_strings-requires
append_views_and_copy_strings-requires c = (rows_views c.requires.0 c.width_of-width.ensures.0 c.bitmap_bytes-size.ensures.0 c.copy_validity-in-Compacted.ensures c.requires.1 (search rules), rows-ideal c.requires.0 c.width_of-width.ensures.0 c.bitmap_bytes-size.ensures.0 c.copy_validity-in-Compacted.ensures c.requires.1 (search rules))

pub returns-in-Copied : goal.returns-in-Copied
returns-in-Copied c = rows-copied c.requires.0 c.width_of-width.ensures.0 c.bitmap_bytes-size.ensures.0 (search rules) c.copy_rows.ensures

pub returns-in-Attached : goal.returns-in-Attached
returns-in-Attached c = rows_attached c.requires.0 c.width_of-width.ensures.0 c.bitmap_bytes-size.ensures.0 c.copy_validity.ensures c.requires.1 (search rules) c.attach.ensures

pub returns-in-Compacted : goal.returns-in-Compacted
returns-in-Compacted c = rows_compacted c.requires.0 c.width_of-width.ensures.0 c.bitmap_bytes-size.ensures.0 c.copy_validity-in-Compacted.ensures c.requires.1 (search rules) c.append_views_and_copy_strings.ensures
