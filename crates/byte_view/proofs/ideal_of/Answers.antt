-- `byte_view::ideal_of` meets its contract.
use borrow.Author.Rules.{rules}
use Rattle.byte_view.specs.FoldLaws.{bytes-known, ideal-none, ideal-more, ideal-all, ideal-fits, ideal_bound}
use Rattle.byte_view.proofs.ideal_of.Goals as goal

pub loop-i-init : goal.loop-i-init
loop-i-init c = search (ideal-none, bytes-known {s = c.args.body.now} c.type_inv.body, rules)

pub overflow_add-sum : goal.overflow_add-sum
overflow_add-sum c = search (ideal-fits, rules)

pub loop-i-preserved : goal.loop-i-preserved
loop-i-preserved c = search (ideal-more, ideal_bound, rules)

pub returns : goal.returns
returns c = search (ideal-all, rules)
