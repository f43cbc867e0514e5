-- `column_checks::all_held` meets its contract.
use borrow.Author.Rules.{rules}
use Rattle.column_checks.specs.RuleLaws.{held_none, held_more, held_fails, held_done}
use Rattle.column_checks.proofs.all_held.Goals as goal

pub loop-i-init : goal.loop-i-init
loop-i-init c = search (held_none, rules)

pub loop-i-preserved : goal.loop-i-preserved
loop-i-preserved c = search (held_more, rules)

pub returns-then-not-is_held : goal.returns-then-not-is_held
returns-then-not-is_held c = search (held_fails, rules)

pub returns : goal.returns
returns c = search (held_done, rules)
