-- `gaps::lowest_free` meets its contract.
use borrow.Author.Rules.{rules}
use Rattle.books.specs.SearchLaws.{used_room', free_more, free_here, free-next, free-nothing}
use Rattle.gaps.proofs.lowest_free.Goals as goal

pub entry_at-requires : goal.entry_at-requires
entry_at-requires c = search (used_room', rules)

pub returns-then-is_free : goal.returns-then-is_free
returns-then-is_free c = search (free_here, rules)

pub loop-i-preserved : goal.loop-i-preserved
loop-i-preserved c = search (free_more, rules)

pub returns-then-used-n : goal.returns-then-used-n
returns-then-used-n c = search (free-next, rules)

pub returns-else-used-n : goal.returns-else-used-n
returns-else-used-n c = search (free-nothing, rules)
