-- `buffers::buffer_refusal` meets its contract.
use borrow.Author.Rules.{rules}
use Rattle.ranges.specs.SaysLaws.{says_in_use}
use Rattle.buffers.specs.BufferLaws.{number-refused, number_read}
use Rattle.buffers.proofs.buffer_refusal.Goals as goal

pub buffer_refusal-requires : goal.buffer_refusal-requires
buffer_refusal-requires c = search (says_in_use, rules)

pub returns-then-number-eq0 : goal.returns-then-number-eq0
returns-then-number-eq0 c = search (number_read, rules)

pub returns-else-number-eq0 : goal.returns-else-number-eq0
returns-else-number-eq0 c = search (number-refused, rules)
