-- `in_progress::move_and_copy` meets its contract.
use Rattle.in_progress.specs.CompactLaws.{part_ready, moved_part, moved-long, moved-steps}
use Rattle.in_progress.proofs.move_and_copy.Goals as goal

pub finish_current-t-requires : goal.finish_current-t-requires
finish_current-t-requires c = part_ready c.requires.0

pub open_and_copy-requires : goal.open_and_copy-requires
open_and_copy-requires c = (moved_part c.requires.0 c.finish_current-t.ensures, moved-long c.requires.0 c.finish_current-t.ensures c.requires.1)

pub returns : goal.returns
returns c = moved-steps c.requires.0 c.finish_current-t.ensures _ c.open_and_copy.ensures
