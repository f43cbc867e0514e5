-- `views::raise` meets its contract.
use borrow.Author.Rules.{rules}
use Rattle.views.specs.ShowLaws.{raise_inline, raise_long}
use Rattle.views.proofs.raise.Goals as goal

pub returns-then-v-gt-MAX_INLINE_VIEW_LEN : goal.returns-then-v-gt-MAX_INLINE_VIEW_LEN
returns-then-v-gt-MAX_INLINE_VIEW_LEN c = search (raise_long, rules)

pub returns-else-v-gt-MAX_INLINE_VIEW_LEN : goal.returns-else-v-gt-MAX_INLINE_VIEW_LEN
returns-else-v-gt-MAX_INLINE_VIEW_LEN c = search (raise_inline, rules)
