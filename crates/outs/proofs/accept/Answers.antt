-- `outs::accept` meets its contract.
use borrow.Author.Rules.{rules}
use Rattle.outs.proofs.EventExits.{lent, asked_at, took_at}
use Rattle.outs.proofs.accept.Goals as goal

pub change_side-requires : goal.change_side-requires
change_side-requires c = search (lent, asked_at, rules)

pub returns : goal.returns
returns c = search (took_at, rules)
