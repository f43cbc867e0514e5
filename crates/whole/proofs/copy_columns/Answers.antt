-- `whole::copy_columns` meets its contract.
use mathlib.Core.Path.{refl}
use native.Mathlib.Omega.{arith}
use borrow.Author.Rules.{rules}
use Rattle.whole.specs.QueueLaws.{asks_few, asks_columns, asks_place, asks_slot, laid_none, laid_asks, laid_more, laid-all}
use Rattle.whole.proofs.copy_columns.Goals as goal

pub values_place-place-requires : goal.values_place-place-requires
values_place-place-requires c = (search (asks_few, rules), search (asks_slot, rules), omega arith)

pub loop-c-init : goal.loop-c-init
loop-c-init c = (search (asks_columns, rules), refl, refl, search rules, search (laid_none, rules))

pub copy_whole-requires : goal.copy_whole-requires
copy_whole-requires c = search (laid_asks, rules)

pub next_place-place-requires : goal.next_place-place-requires
next_place-place-requires c = (search (asks_few, rules), search (asks_place, rules), search rules, search rules)

pub loop-c-preserved : goal.loop-c-preserved
loop-c-preserved c = (search rules, search rules, search rules, search rules, search (laid_more, rules))

pub returns : goal.returns
returns c = search (laid-all, rules)
