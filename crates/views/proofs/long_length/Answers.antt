-- `views::long_length` meets its contract.
use borrow.Author.Rules.{rules}
use Rattle.views.specs.ShowLaws.{long-none, long-some}
use Rattle.views.proofs.long_length.Goals as goal

pub returns-then-v-le-MAX_INLINE_VIEW_LEN : goal.returns-then-v-le-MAX_INLINE_VIEW_LEN
returns-then-v-le-MAX_INLINE_VIEW_LEN c = search (long-none, rules)

pub returns-else-v-le-MAX_INLINE_VIEW_LEN : goal.returns-else-v-le-MAX_INLINE_VIEW_LEN
returns-else-v-le-MAX_INLINE_VIEW_LEN c = search (long-some, rules)
