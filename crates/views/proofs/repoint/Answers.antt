-- `views::repoint` meets its contract.
use borrow.Author.Rules.{rules}
use Rattle.views.specs.ShowLaws.{repoint_inline, repoint-long}
use Rattle.views.proofs.repoint.Goals as goal

pub returns-then-v-le-MAX_INLINE_VIEW_LEN : goal.returns-then-v-le-MAX_INLINE_VIEW_LEN
returns-then-v-le-MAX_INLINE_VIEW_LEN c = search (repoint_inline, rules)

pub returns-else-v-le-MAX_INLINE_VIEW_LEN : goal.returns-else-v-le-MAX_INLINE_VIEW_LEN
returns-else-v-le-MAX_INLINE_VIEW_LEN c = search (repoint-long, rules)
