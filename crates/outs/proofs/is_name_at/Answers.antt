-- `outs::is_name_at` meets its contract.
use borrow.Author.Rules.{rules}
use Rattle.outs.specs.TestExits.{name_at_zero, name_at_long, name_at_none}
use Rattle.outs.proofs.is_name_at.Goals as goal
use Rattle.outs.proofs.is_name_at.Goals.{then-n-ge1, else-n-ge1}

pub returns-then-n-le64 : goal.returns-then-n-le64
returns-then-n-le64 c = name_at_zero _ _ c.get32-n.ensures c.if-n-le64.true.0 c.if-n-le64.true.1 c.is_zero.ensures

pub returns-else-n-le64 : goal.returns-else-n-le64
returns-else-n-le64 c =
    elim c.if-n-ge1.branch [ then-n-ge1 w ↦ search (name_at_long, rules) | else-n-ge1 w ↦ search (name_at_none, rules) ]
