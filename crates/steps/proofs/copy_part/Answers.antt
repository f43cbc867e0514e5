-- `steps::copy_part` meets its contract.
use mathlib.Core.Path.{refl}
use native.Mathlib.Omega.{arith}
use borrow.Author.Rules.{rules}
use Rattle.whole.specs.PlaceLaws.{place-fits, place-more}
use Rattle.steps.specs.PartLaws.{part_few, part_columns, part_slot, copied_none, copied_asks, copied_more, copied_stop, copied_all, as_is_asks, copied_as_is}
use Rattle.steps.proofs.copy_part.Goals as goal

pub values_place-place-requires : goal.values_place-place-requires
values_place-place-requires c = (search (part_few, rules), search (part_slot, rules), omega arith)

pub loop-c-init : goal.loop-c-init
loop-c-init c = (search (part_columns, rules), refl, refl, refl, search rules, search (copied_none, rules))

pub column_size-place-requires : goal.column_size-place-requires
column_size-place-requires c = let few = part_few c.requires in (few.rows, few.lists)

pub overflow_add-place : goal.overflow_add-place
overflow_add-place c = place-fits _ (part_few c.requires) c.requires.run.fit.place c.loop-c-test.true c.loop-c.invariant.4 c.column_size-place.ensures.1

pub copy_as_is-requires : goal.copy_as_is-requires
copy_as_is-requires c = as_is_asks c.requires c.loop-c.invariant.5 c.loop-c-test.true c.loop-c.invariant.4

pub loop-c-preserved-in-Copied : goal.loop-c-preserved-in-Copied
loop-c-preserved-in-Copied c = (c.loop-c.invariant.0, search rules, search rules, search rules, place-more _ (part_few c.requires) c.requires.run.fit.place c.loop-c-test.true c.loop-c.invariant.4 c.column_size-place.ensures.0, copied_as_is c.requires c.loop-c.invariant.5 c.loop-c-test.true c.loop-c.place (search rules) c.copy_as_is.ensures)

pub copy_column-step-requires : goal.copy_column-step-requires
copy_column-step-requires c = copied_asks c.requires c.loop-c.invariant.5 c.loop-c-test.true c.loop-c.invariant.4

pub loop-c-preserved : goal.loop-c-preserved
loop-c-preserved c = (c.loop-c.invariant.0, search (c.copy_column-step.auto.slots, c.loop-c.invariant.1, rules), search (c.copy_column-step.auto.pool, c.loop-c.invariant.2, rules), search (c.copy_column-step.auto.books, c.loop-c.invariant.3, rules), place-more _ (part_few c.requires) c.requires.run.fit.place c.loop-c-test.true c.loop-c.invariant.4 c.column_size-place.ensures.0, copied_more c.requires c.loop-c.invariant.5 c.loop-c-test.true c.loop-c.place c.copy_column-step.ensures c.if-step-ne0.false)

pub returns-then-step-ne0 : goal.returns-then-step-ne0
returns-then-step-ne0 c = copied_stop c.requires c.loop-c.invariant.5 c.loop-c-test.true c.loop-c.place c.copy_column-step.ensures c.if-step-ne0.true

pub returns : goal.returns
returns c = search (copied_all, rules)
