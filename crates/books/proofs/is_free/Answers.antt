-- `books::is_free` meets its contract.
use borrow.Author.Rules.{rules}
use Rattle.books.specs.EntryLaws.{free-last, free_held}
use Rattle.books.proofs.is_free.Goals as goal

pub returns-then-e-eq0 : goal.returns-then-e-eq0
returns-then-e-eq0 c = search (free-last, rules)

pub returns-else-e-eq0 : goal.returns-else-e-eq0
returns-else-e-eq0 c = search (free_held, rules)
