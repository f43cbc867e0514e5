-- `finishing::finish_full` meets its contract.
use borrow.Author.Rules.{rules}
use Rattle.finishing.specs.FinishLaws.{full_done, full_none}
use Rattle.finishing.proofs.finish_full.Goals as goal

pub returns-then-s : goal.returns-then-s
returns-then-s c = search (full_done, rules)

pub returns-else-s : goal.returns-else-s
returns-else-s c = search (full_none, rules)
