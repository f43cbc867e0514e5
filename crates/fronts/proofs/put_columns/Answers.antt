-- `fronts::put_columns` meets its contract.
use mathlib.Core.Path.{refl}
use native.Mathlib.Omega.{arith}
use borrow.Author.Rules.{rules}
use Rattle.ranges.specs.Passed.{passed_few, passed_books, passed_slot, passed_column}
use Rattle.fronts.specs.PlacedLaws.{rows_few, lists_few, place_low, place-fits, columns_none, columns_more, columns_done, place-more}
use Rattle.fronts.proofs.put_columns.Goals as goal

pub values_place-place-requires : goal.values_place-place-requires
values_place-place-requires c = (search (passed_few, rules), search (passed_slot, rules), omega arith)

pub loop-c-init : goal.loop-c-init
loop-c-init c = (search (columns_none, rules), refl, search rules, search rules)

pub bounds-s-c : goal.bounds-s-c
bounds-s-c c = search (passed_column, rules)

pub list_length-count-requires : goal.list_length-count-requires
list_length-count-requires c = search (passed_few, passed_books, rules)

pub put_column-requires : goal.put_column-requires
put_column-requires c = (search (rows_few, rules), search (place_low, rules), search (passed_column, rules), search rules)

pub column_size-place-requires : goal.column_size-place-requires
column_size-place-requires c = (search (rows_few, rules), search (lists_few, rules))

pub overflow_add-place : goal.overflow_add-place
overflow_add-place c = search (place-fits, rules)

pub loop-c-preserved : goal.loop-c-preserved
loop-c-preserved c = (columns_more _ _ _ _ _ _ c.requires.1 c.loop-c.invariant.2 c.list_length-count.ensures c.loop-c.invariant.0 c.put_column.ensures, search rules, search (place-more, rules), search rules)

pub returns : goal.returns
returns c = search (columns_done, rules)
