-- `gaps::sweep` meets its contract.
use borrow.Author.Rules.{rules}
use Rattle.books.specs.GapLaws.{swept_none, swept-more, swept_all, past_bound}
use Rattle.books.specs.SearchLaws.{used_room}
use Rattle.gaps.proofs.sweep.Goals as goal

pub loop-i-init : goal.loop-i-init
loop-i-init c = search (swept_none, rules)

pub entry_at-requires : goal.entry_at-requires
entry_at-requires c = search (used_room, rules)

pub loop-i-preserved : goal.loop-i-preserved
loop-i-preserved c = search (swept-more, past_bound, rules)

pub returns : goal.returns
returns c = search (swept_all, rules)
