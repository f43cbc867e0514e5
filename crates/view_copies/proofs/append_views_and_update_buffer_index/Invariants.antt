-- `view_copies::append_views_and_update_buffer_index` meets its contract: what its loops keep.
use Rattle.byte_view.specs.FoldLaws.{Raising}
use Rattle.view_copies.proofs.append_views_and_update_buffer_index.Given as goal

abbrev pub invariant-loop-i : goal.invariant-loop-i
invariant-loop-i l = Raising l.initial.slots l.body l.to l.from l.k l.i l.slots
