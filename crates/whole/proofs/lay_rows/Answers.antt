-- `whole::lay_rows` meets its contract.
use borrow.Author.Rules.{rules}
use Rattle.primitive.specs.PlacedLaws.{values_hold, begin_holds, placed_rows_lem}
use Rattle.whole.specs.WholeLaws.{rowed_few, rowed_column, rowed_placed, rowed_laid}
use Rattle.whole.proofs.lay_rows.Goals as goal

pub width_of-width-requires : goal.width_of-width-requires
width_of-width-requires c = search (rowed_column, rules)

pub overflow_mul-begin : goal.overflow_mul-begin
overflow_mul-begin c = values_hold (rowed_placed c.requires.0 c.requires.1) c.width_of-width.ensures.0

pub overflow_add-begin : goal.overflow_add-begin
overflow_add-begin c = begin_holds (rowed_placed c.requires.0 c.requires.1) c.width_of-width.ensures.0

pub bitmap_bytes-size-requires : goal.bitmap_bytes-size-requires
bitmap_bytes-size-requires c = search (rowed_few, rules)

pub copy_rows-requires : goal.copy_rows-requires
copy_rows-requires c = placed_rows_lem (rowed_placed c.requires.0 c.requires.1) c.width_of-width.ensures.0 c.bitmap_bytes-size.ensures.0

pub returns : goal.returns
returns c = rowed_laid c.requires.0 c.requires.1 c.width_of-width.ensures.0 c.bitmap_bytes-size.ensures.0 c.copy_rows.ensures
