-- `in_progress::attach_list` meets its contract.
use native.Mathlib.Omega.{arith}
use Rattle.in_progress.specs.AttachLaws.{any_place, any_at, any_record, raise_listable, raise_spanned, raise_raisable, raise_done}
use Rattle.in_progress.proofs.attach_list.Goals as goal

pub append_views_and_update_buffer_index-requires : goal.append_views_and_update_buffer_index-requires
append_views_and_update_buffer_index-requires c = (raise_spanned c.requires.0 c.append_list.new.slots c.append_list.auto.slots, raise_raisable c.requires.0 c.requires.1)

pub append_list-requires : goal.append_list-requires
append_list-requires c = (raise_listable c.requires.0 c.requires.1 c.requires.2, any_record c.requires.0)

pub overflow_add-to : goal.overflow_add-to
overflow_add-to c = omega (arith, any_place c.requires.0, any_at c.requires.0)

pub returns : goal.returns
returns c = raise_done c.requires.0 c.requires.1 c.requires.2 c.append_list.ensures c.append_views_and_update_buffer_index.ensures
