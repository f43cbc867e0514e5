-- `outs::put_last` meets its contract.
use borrow.Author.Rules.{rules}
use Rattle.outs.proofs.TakeExits.{last-put}
use Rattle.outs.proofs.put_last.Goals as goal

pub returns : goal.returns
returns c = search (last-put, rules)
