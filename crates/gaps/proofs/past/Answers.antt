-- `gaps::past` meets its contract.
use borrow.Author.Rules.{rules}
use Rattle.books.specs.GapLaws.{past_free, past_end, past_apart}
use Rattle.gaps.proofs.past.Goals as goal

pub returns-then-is_free : goal.returns-then-is_free
returns-then-is_free c = search (past_free, rules)

pub returns-then-from-to : goal.returns-then-from-to
returns-then-from-to c = search (past_end, rules)

pub returns-else-from-to : goal.returns-else-from-to
returns-else-from-to c = search (past_apart, rules)
