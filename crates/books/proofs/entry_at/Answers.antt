-- `books::entry_at` meets its contract.
use borrow.Author.Rules.{rules}
use Rattle.books.specs.EntryLaws.{entry_is}
use Rattle.books.proofs.entry_at.Goals as goal

pub returns : goal.returns
returns c = search (entry_is, rules)
