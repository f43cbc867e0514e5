-- `finishing::close_all` meets its contract.
use mathlib.Core.Path.{refl}
use borrow.Author.Rules.{rules}
use Rattle.finishing.specs.FinishLaws.{closes_none, closes_ready, closes_views, closes_plain, closes_end, closable_columns}
use Rattle.finishing.proofs.close_all.Goals as goal

pub loop-c-init : goal.loop-c-init
loop-c-init c = (search (closable_columns, rules), refl, refl, search (closes_none, rules))

pub finish_current-t-requires : goal.finish_current-t-requires
finish_current-t-requires c = closes_ready c.requires c.loop-c.invariant.3 c.loop-c-test.true c.if-not-is_view.ensures refl

pub loop-c-preserved : goal.loop-c-preserved
loop-c-preserved c = (c.loop-c.invariant.0, search rules, search rules, closes_views c.requires c.loop-c.invariant.3 c.loop-c-test.true c.if-not-is_view.ensures refl c.finish_current-t.ensures)

pub loop-c-preserved-then-not-is_view : goal.loop-c-preserved-then-not-is_view
loop-c-preserved-then-not-is_view c = (c.loop-c.invariant.0, c.loop-c.invariant.1, c.loop-c.invariant.2, closes_plain c.requires c.loop-c.invariant.3 c.loop-c-test.true c.if-not-is_view.ensures refl)

pub returns : goal.returns
returns c = search (closes_end, rules)
