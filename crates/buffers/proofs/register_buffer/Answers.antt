-- `buffers::register_buffer` meets its contract.
use borrow.Author.Rules.{rules}
use Rattle.ranges.specs.SaysLaws.{says_used, says_entries}
use Rattle.buffers.specs.BufferLaws.{register_refused, register_done}
use Rattle.ranges.specs.Passed.{says-numbers, says_pool_word}
use Rattle.buffers.proofs.register_buffer.Goals as goal

pub register-requires : goal.register-requires
register-requires c = search (says_used, says_entries, says-numbers, says_pool_word, rules)

pub returns-then-number-eq0 : goal.returns-then-number-eq0
returns-then-number-eq0 c = search (register_done, rules)

pub returns-else-number-eq0 : goal.returns-else-number-eq0
returns-else-number-eq0 c = search (register_refused, rules)
