-- `pool_reads::buffer_part` meets its contract.
use borrow.Author.Rules.{rules}
use Rattle.pool.specs.ReadLaws.{part_room, part_within, part_is, part_not}
use Rattle.pool_reads.specs.Place.{part_there, part_refused}
use Rattle.pool_reads.proofs.buffer_part.Goals as goal

pub entry_at-e-requires : goal.entry_at-e-requires
entry_at-e-requires c = search (part_room, rules)

pub slice_bounds-result-end : goal.slice_bounds-result-end
slice_bounds-result-end c = search (part_within, rules)

pub returns-then-buffer_refusal-eq0 : goal.returns-then-buffer_refusal-eq0
returns-then-buffer_refusal-eq0 c = record { result_value = search (part_is, rules); part_at = search (part_there, rules) }

pub returns-else-buffer_refusal-eq0 : goal.returns-else-buffer_refusal-eq0
returns-else-buffer_refusal-eq0 c = record { result_value = search (part_not, rules); part_at = search (part_refused, rules) }
