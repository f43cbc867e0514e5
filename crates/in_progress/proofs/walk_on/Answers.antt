-- `in_progress::walk_on` meets its contract.
use native.Mathlib.Omega.{arith}
use borrow.Author.Rules.{rules}
use Rattle.in_progress.specs.CompactLaws.{walk_few, walk_at, walk_from, walk_read, walk_fits, walk_behind, walk_left, walk_steps}
use Rattle.in_progress.proofs.walk_on.Goals as goal

pub walk-walked-requires : goal.walk-walked-requires
walk-walked-requires c = (walk_few c.requires, walk_read c.requires)

pub rows_behind-behind-requires : goal.rows_behind-behind-requires
rows_behind-behind-requires c = (search rules, walk_at c.requires, walk_from c.requires)

pub copy_into_open-requires : goal.copy_into_open-requires
copy_into_open-requires c = walk_fits c.requires c.walk-walked.ensures.0 c.first_rows-first.ensures c.rows_behind-behind.ensures

pub overflow_sub-left : goal.overflow_sub-left
overflow_sub-left c = omega (arith, c.requires.short, c.walk-walked.ensures.2)

pub move_and_copy-requires : goal.move_and_copy-requires
move_and_copy-requires c = (walk_behind c.requires c.walk-walked.ensures.0 c.first_rows-first.ensures c.rows_behind-behind.ensures c.copy_into_open.ensures, walk_left c.requires c.walk-walked.ensures.0 c.first_rows-first.ensures c.rows_behind-behind.ensures c.copy_into_open.ensures)

pub returns : goal.returns
returns c = walk_steps c.requires c.walk-walked.ensures.0 c.first_rows-first.ensures c.rows_behind-behind.ensures c.copy_into_open.ensures c.move_and_copy.ensures
