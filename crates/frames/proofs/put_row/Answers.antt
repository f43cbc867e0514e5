-- `frames::put_row` meets its contract.
use borrow.Author.Rules.{rules}
use Rattle.frames.specs.BlockLaws.{row-none, row_laid}
use Rattle.frames.proofs.put_row.Goals as goal

pub returns-then-number-eq0 : goal.returns-then-number-eq0
returns-then-number-eq0 c = search (row-none, rules)

pub returns-else-number-eq0 : goal.returns-else-number-eq0
returns-else-number-eq0 c = search (row_laid, rules)
