-- `buffers::read_buffer` meets its contract.
use borrow.Author.Rules.{rules}
use Rattle.ranges.specs.SaysLaws.{says_in_use}
use Rattle.buffers.specs.BufferLaws.{part_refused, part_read, place-refused, place_read}
use Rattle.buffers.proofs.read_buffer.Goals as goal

pub buffer_part-requires : goal.buffer_part-requires
buffer_part-requires c = search (says_in_use, rules)

pub returns-then-tested-eq0 : goal.returns-then-tested-eq0
returns-then-tested-eq0 c = record { result_value = search (part_read, rules); part_at = search (place_read, rules) }

pub returns-else-tested-eq0 : goal.returns-else-tested-eq0
returns-else-tested-eq0 c = record { result_value = search (part_refused, rules); part_at = search (place-refused, rules) }
