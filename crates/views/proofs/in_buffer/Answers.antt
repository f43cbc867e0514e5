-- `views::in_buffer` meets its contract.
use borrow.Author.Rules.{rules}
use Rattle.views.specs.ShowLaws.{in_buffer_last, in_buffer_not}
use Rattle.views.proofs.in_buffer.Goals as goal

pub returns-then-end-b : goal.returns-then-end-b
returns-then-end-b c = search (in_buffer_last, rules)

pub returns-else-end-b : goal.returns-else-end-b
returns-else-end-b c = search (in_buffer_not, rules)
