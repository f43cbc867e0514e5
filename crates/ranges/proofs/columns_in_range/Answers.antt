-- `ranges::columns_in_range` meets its contract.
use borrow.Author.Rules.{rules}
use Rattle.std.proofs.Common.{sym, ◌∙◌}
use Rattle.search.specs.Every.{all_none, all_more, all_fails, all_done}
use Rattle.layout.specs.ExitLaws.{column_is}
use Rattle.ranges.proofs.columns_in_range.Goals as goal

pub loop-c-init : goal.loop-c-init
loop-c-init c = all_none _

pub column_in_range-requires : goal.column_in_range-requires
column_in_range-requires c = search (column_is, rules)

pub loop-c-preserved : goal.loop-c-preserved
loop-c-preserved c = all_more c.loop-c.invariant (sym c.column_in_range.ensures ∙ c.if-not-column_in_range.false)

pub returns-then-not-column_in_range : goal.returns-then-not-column_in_range
returns-then-not-column_in_range c = all_fails _ _ _ c.loop-c-test.true (sym c.column_in_range.ensures ∙ c.if-not-column_in_range.true)

pub returns : goal.returns
returns c = all_done _ c.loop-c.invariant c.loop-c-test.false
