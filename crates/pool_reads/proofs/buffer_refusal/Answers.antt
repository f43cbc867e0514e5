-- `pool_reads::buffer_refusal` meets its contract.
use borrow.Author.Rules.{rules}
use Rattle.books.specs.SearchLaws.{used_room}
use Rattle.pool.specs.ReadLaws.{read_beyond, read-free, read_past, read_done}
use Rattle.pool_reads.proofs.buffer_refusal.Goals as goal

pub returns-then-used-number : goal.returns-then-used-number
returns-then-used-number c = search (read_beyond, rules)

pub entry_at-e-requires : goal.entry_at-e-requires
entry_at-e-requires c = search (used_room, rules)

pub returns-then-is_free : goal.returns-then-is_free
returns-then-is_free c = search (read-free, rules)

pub returns-then-end-pool : goal.returns-then-end-pool
returns-then-end-pool c = search (read_done, rules)

pub returns-else-end-pool : goal.returns-else-end-pool
returns-else-end-pool c = search (read_past, rules)
