-- `outs::side_refusal` meets its contract.
use borrow.Author.Rules.{rules}
use Rattle.outs.proofs.EventExits.{out_already, goes, eighth, nobody, comes}
use Rattle.outs.proofs.side_refusal.Goals as goal

pub returns-then-is_out : goal.returns-then-is_out
returns-then-is_out c = rw c.in-Out.is (search (out_already, rules))

pub returns-else-is_out : goal.returns-else-is_out
returns-else-is_out c = rw c.in-Out.is (search (goes, rules))

pub returns-else-count-lt7 : goal.returns-else-count-lt7
returns-else-count-lt7 c = rw c.in-Out.is (search (eighth, rules))

pub returns-then-count-eq0 : goal.returns-then-count-eq0
returns-then-count-eq0 c = rw c.in-Revive.is (search (nobody, rules))

pub returns-else-count-eq0 : goal.returns-else-count-eq0
returns-else-count-eq0 c = rw c.in-Revive.is (search (comes, rules))
