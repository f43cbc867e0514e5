-- `books::put_entry` meets its contract.
use Rattle.books.specs.Entry.{with_entry}
use Rattle.books.proofs.put_entry.Goals as goal

pub returns : goal.returns
unfolding with_entry
returns c = cc
