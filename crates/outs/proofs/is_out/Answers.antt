-- `outs::is_out` meets its contract.
use borrow.Author.Rules.{rules}
use Rattle.outs.proofs.ReadExits.{out_none, out-more, out_found, out-all}
use Rattle.outs.proofs.EventExits.{same_name}
use Rattle.outs.proofs.is_out.Goals as goal

pub loop-i-init : goal.loop-i-init
loop-i-init c = search (out_none, rules)

pub returns-then-eq : goal.returns-then-eq
returns-then-eq c = search (out_found, same_name, rules)

pub loop-i-preserved : goal.loop-i-preserved
loop-i-preserved c = search (out-more, same_name, rules)

pub returns : goal.returns
returns c = search (out-all, rules)
