-- `gaps::lowest_gap` meets its contract.
use borrow.Author.Rules.{rules}
use Rattle.books.specs.GapLaws.{gap_none, gap_past, gap_here, gap_turn, gap_less}
use Rattle.search.specs.FirstLaws.{passed_none}
use Rattle.gaps.proofs.lowest_gap.Goals as goal

pub returns-then-end-want : goal.returns-then-end-want
returns-then-end-want c = search (gap_none, rules)

pub loop-at-init : goal.loop-at-init
loop-at-init c = search (passed_none, rules)

pub returns-then-next-at : goal.returns-then-next-at
returns-then-next-at c = search (gap_here, rules)

pub loop-at-smaller : goal.loop-at-smaller
loop-at-smaller c = search (gap_less, rules)

pub loop-at-preserved : goal.loop-at-preserved
loop-at-preserved c = search (gap_turn, rules)

pub returns : goal.returns
returns c = search (gap_past, rules)
