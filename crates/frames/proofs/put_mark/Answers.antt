-- `frames::put_mark` meets its contract.
use borrow.Author.Rules.{rules}
use Rattle.frames.specs.PieceLaws.{mark-first, mark_other}
use Rattle.frames.proofs.put_mark.Goals as goal

pub returns-then-i-eq0 : goal.returns-then-i-eq0
returns-then-i-eq0 c = search (mark-first, rules)

pub returns-else-i-eq0 : goal.returns-else-i-eq0
returns-else-i-eq0 c = search (mark_other, rules)
