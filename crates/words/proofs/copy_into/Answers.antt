-- `words::copy_into` meets its contract.
use Rattle.std.proofs.Common.{zero-add}
use Rattle.words.specs.Run.{put}
use Rattle.words.proofs.copy_into.Goals as goal

pub returns : goal.returns
unfolding put
returns c = simp (zero-add, c.copy_from_slice.ensures.after)
