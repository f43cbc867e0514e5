-- `view_copies::append_views_and_copy_strings_inner` meets its contract: what its loops keep.
use Rattle.byte_view.specs.CopyLaws.{CopiedTo}
use Rattle.view_copies.proofs.append_views_and_copy_strings_inner.Given as goal

abbrev pub invariant-loop-i : goal.invariant-loop-i
invariant-loop-i l = CopiedTo l.books l.body l.initial.slots l.initial.pool l.j l.initial.so_far.0 l.i l.so_far.0 l.slots l.pool
